use Rattle.std.proofs.Common.{◌∙◌, ◌≤◌, ◌+◌, ◌-◌, ap, sym, length, take, drop, arith}
use Rattle.std.proofs.Math.ListN.{drop_of_length-le}
use Rattle.std.proofs.lemmas.List.{drop-drop, take_rest}
use Rattle.cfb_journal.proofs.looking.frames_behind.Goals as goal

pub returns-then-journal-lt42 : goal.returns-then-journal-lt42
returns-then-journal-lt42 c =
    let j = c.args.journal.now in
    let few : length j ≤ 18 + 24 = omega (arith, c.if-journal-lt42.true) in
    sym (drop-drop 24 18 j ∙ drop_of_length-le j few)

pub returns : goal.returns
returns c =
    let j = c.args.journal.now in
    take_rest (take (length j - 18) (drop 18 j)) 24 ∙ ap (drop 24) (take_rest j 18)
