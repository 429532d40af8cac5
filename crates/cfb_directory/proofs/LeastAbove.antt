-- The least number above the sectors of a list.
use Rattle.std.proofs.Common.{◌≡◌, ℕ, List, [], arith, sym, subst}
use Rattle.std.specs.Prelude.{Contains}
use Rattle.cfb_slots.specs.Slots.{IsLeastAbove}
use Rattle.cfb_format.proofs.Members.{Contains-nil}

pub least-of-none : IsLeastAbove [] 0
least-of-none n = ((λ le i m. absurd (Contains-nil i m)), (λ all. omega arith))

-- what is the least above a list is the least above one that is the same
pub least-kept : (xs ys : List ℕ) (above : ℕ) → ys ≡ xs → IsLeastAbove xs above → IsLeastAbove ys above
least-kept xs ys above same least n = ((λ le i m. (least n).0 le i (subst (λ (l : List ℕ). Contains l i) same m)), (λ all. (least n).1 (λ i m. all i (subst (λ (l : List ℕ). Contains l i) (sym same) m))))
