use Rattle.std.proofs.Common.{List, ℕ, length, ap, inl, arith}
use Rattle.cfb_resizing.proofs.moving.can_go_on.Goals as goal

pub returns-then-not-are_below : goal.returns-then-not-are_below
returns-then-not-are_below g c out =
    inl (λ all. c.are_below.ensures c.if-not-are_below.true (λ i m.
    let lt = all i m in
    let same = ap (λ (t : List ℕ). length t) c.fat.ensures in
    omega (arith, lt, same)))
