use Rattle.std.proofs.Common.{arith, ◌∙◌, sym, ◌≡◌, get_or}
use Rattle.std.proofs.lemmas.List.{get_or_default}
use Rattle.std.proofs.lemmas.List.Elements.{Contains-get_or}
use Rattle.cfb_alloc.proofs.alloc.are_below.Goals as goal

pub returns-then-number-count-clause-not_below : goal.returns-then-number-count-clause-not_below
returns-then-number-count-clause-not_below c out all =
    let lt = all (get_or c.args.numbers.now c.loop-number.number-index 0) (Contains-get_or c.args.numbers.now c.loop-number.number-index 0 c.loop-number-test.true) in
    let ge = c.if-number-count.true in
    omega (arith, lt, ge)

pub returns-clause-below : goal.returns-clause-below
returns-clause-below c is_so i m =
    let k = m.0 in
    let lt = m.1 in
    let past = c.loop-number-test.false in
    let low = c.loop-number.invariant k (omega (arith, lt, past)) in
    let same : get_or c.args.numbers.now k 0 ≡ i = sym (get_or_default c.args.numbers.now k i 0 lt) ∙ m.2 in
    omega (arith, low, same)
