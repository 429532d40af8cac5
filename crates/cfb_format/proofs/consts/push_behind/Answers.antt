use Rattle.std.proofs.Common.{◌∙◌, refl, ap, [], append_assoc}
use Rattle.std.specs.Prelude.{Some}
use Rattle.std.proofs.lemmas.List.Elements.{All-push, All-pop}
use Rattle.cfb_format.specs.Runs.{goes_on, StaysBelowMarks}
use Rattle.cfb_format.proofs.Runs.{longest-changed, longest-more, full_of_words}
use Rattle.cfb_format.proofs.consts.push_behind.Goals as goal

pub returns-in_default-clause-longest : goal.returns-in_default-clause-longest
returns-in_default-clause-longest g c long =
    let full = full_of_words c.run_of.result [] c.args.word c.run_of.ensures.words in
    let apart = ap (goes_on c.args.last) c.run_of.ensures.first ∙ c.in_default.ensures.longest in
    rw (c.in_ok-push-2.ensures.items, c.in_ok-push.ensures.items, append_assoc) (longest-more c.args.runs.now.items c.args.last c.run_of.result long apart full)

pub returns-clause-longest : goal.returns-clause-longest
returns-clause-longest g c long =
    let full = full_of_words c.in-Some.longer _ c.args.word c.in-Some.ensures.words in
    rw c.in_ok-push-3.ensures.items (longest-changed c.args.runs.now.items c.args.last c.in-Some.longer long c.in-Some.ensures.first full)

pub returns-clause-numbers : goal.returns-clause-numbers
returns-clause-numbers g c all =
    let before = (All-pop StaysBelowMarks _ c.args.runs.now.items (Some c.args.last) refl all).0 in
    rw c.in_ok-push-3.ensures.items (All-push StaysBelowMarks c.args.runs.now.items c.in-Some.longer before c.in-Some.ensures.numbers)
