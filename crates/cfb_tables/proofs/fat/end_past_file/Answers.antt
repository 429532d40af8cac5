use Rattle.std.proofs.Common.{◌<◌, length, set, get_or, ap, ◌∙◌, arith}
use Rattle.std.proofs.lemmas.List.{get_or_default}
use Rattle.std.proofs.lemmas.List.Edits.{map_over_more}
use Rattle.cfb_format.specs.Fat.{ended_past_file}
use Rattle.cfb_tables.proofs.fat.end_past_file.Goals as goal

pub loop-word-preserved : goal.loop-word-preserved
loop-word-preserved c =
    let old = c.args.fat.now in
    let l = c.loop-word in
    let here : l.word-index < length l.fat = omega (arith, l.auto.fat, c.loop-word-test.true) in
    ap (set l.fat l.word-index) c.within_file.ensures
    ∙ map_over_more (ended_past_file (length old)) old l.fat l.word-index (get_or l.fat l.word-index 0) c.loop-word-test.true l.invariant
    (get_or_default l.fat l.word-index 0 (get_or l.fat l.word-index 0) here)
