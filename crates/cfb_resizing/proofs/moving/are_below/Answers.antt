use Rattle.std.proofs.Common.{arith, get_or}
use Rattle.std.proofs.lemmas.List.Elements.{Contains-get_or}
use Rattle.cfb_resizing.proofs.moving.are_below.Goals as goal

pub returns-then-number-count : goal.returns-then-number-count
returns-then-number-count c out all =
    let lt = all (get_or c.args.numbers.now c.loop-number.number-index 0) (Contains-get_or c.args.numbers.now c.loop-number.number-index 0 c.loop-number-test.true) in
    let ge = c.if-number-count.true in
    omega (arith, lt, ge)
