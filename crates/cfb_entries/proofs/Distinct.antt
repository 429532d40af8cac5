-- Lists of numbers that stand in them once.
use Rattle.std.proofs.Common.{◌≡◌, inl, inr, ℕ, zero, suc, ◌+◌, ◌-◌, ◌<◌, ◌≤◌, List, [], ◌∷◌, ◌++◌, ap, length, length-append, sym, subst, arith}
use Rattle.std.specs.Prelude.{nat_eq, Contains, ◌⊎◌}
use Rattle.std.specs.List.{IsDistinct}
use Rattle.std.proofs.lemmas.Bool.{cases_eq}
use Rattle.std.proofs.lemmas.List.Elements.{Contains-append_left, Contains-push, Contains-push_cases}
use Rattle.cfb_siblings.specs.Painted.{times_in}
use Rattle.cfb_siblings.proofs.Tallies.{hit-same, tally-append, counted, distinct-once, once-distinct}
use Rattle.cfb_entries.specs.Slots.{with_numbers}
use Rattle.cfb_format.proofs.Members.{distinct-push}

pub Contains-nil : (k : ℕ) → Contains [] k → ⊥
Contains-nil k (i, lt, e) = omega (arith, lt)

pub distinct-nil : IsDistinct nat_eq []
unfolding IsDistinct
distinct-nil = tt

pub distinct-rest : (xs : List ℕ) (x : ℕ) → IsDistinct nat_eq (xs ++ x ∷ []) → IsDistinct nat_eq xs
unfolding times_in
distinct-rest xs x d = once-distinct xs (λ k. omega (arith, distinct-once (xs ++ x ∷ []) d k, tally-append k xs (x ∷ [])))

pub distinct-last : (xs : List ℕ) (x : ℕ) → IsDistinct nat_eq (xs ++ x ∷ []) → Contains xs x → ⊥
unfolding times_in
distinct-last xs x d m = omega (arith, distinct-once (xs ++ x ∷ []) d x, tally-append x xs (x ∷ []), hit-same x, counted x xs m)

-- ---- numbers in a row

pub with-next : (list : List ℕ) (from more : ℕ) → 0 < more → with_numbers list from more ≡ with_numbers (list ++ (from + (more - 1)) ∷ []) from (more - 1)
with-next list from zero lt = absurd (omega (arith, lt))
with-next list from (suc more) lt =
    let e : more ≡ suc more - 1 = omega arith in
    ap (λ (k : ℕ). with_numbers (list ++ (from + k) ∷ []) from k) e

pub with-length : (more : ℕ) (list : List ℕ) (from : ℕ) → length (with_numbers list from more) ≡ length list + more
with-length zero list from = omega arith
with-length (suc more) list from = omega (arith, with-length more (list ++ (from + more) ∷ []) from, length-append list ((from + more) ∷ []))

pub with-distinct : (more : ℕ) (list : List ℕ) (from : ℕ) → IsDistinct nat_eq list → ((k : ℕ) → Contains list k → from ≤ k → from + more ≤ k) → IsDistinct nat_eq (with_numbers list from more)
with-distinct zero list from d above = d
with-distinct (suc more) list from d above =
    with-distinct more (list ++ (from + more) ∷ []) from (distinct-push list (from + more) d (λ m. omega (arith, above (from + more) m (omega arith))))
    (λ k m low. elim (Contains-push_cases list (from + more) k m) [
      | inl r ↦ omega (arith, above k r low)
      | inr e ↦ omega (arith, e)
    ])

pub with-cases : (more : ℕ) (list : List ℕ) (from k : ℕ) → Contains (with_numbers list from more) k → Contains list k ⊎ ((from ≤ k) × (k < from + more))
with-cases zero list from k m = inl m
with-cases (suc more) list from k m = elim (with-cases more (list ++ (from + more) ∷ []) from k m) [
  | inl r ↦ elim (Contains-push_cases list (from + more) k r) [
    | inl s ↦ inl s
    | inr e ↦ inr (omega (arith, e), omega (arith, e))
  ]
  | inr w ↦ inr (w.0, omega (arith, w.1))
]

pub with-old : (more : ℕ) (list : List ℕ) (from k : ℕ) → Contains list k → Contains (with_numbers list from more) k
with-old zero list from k m = m
with-old (suc more) list from k m = with-old more (list ++ (from + more) ∷ []) from k (Contains-append_left list ((from + more) ∷ []) k m)

pub with-new : (more : ℕ) (list : List ℕ) (from k : ℕ) → from ≤ k → k < from + more → Contains (with_numbers list from more) k
with-new zero list from k low high = absurd (omega (arith, low, high))
with-new (suc more) list from k low high = elim (cases_eq k (from + more)) [
  | inl e ↦ with-old more (list ++ (from + more) ∷ []) from k (subst (Contains (list ++ (from + more) ∷ [])) (sym e) (Contains-push list (from + more)))
  | inr ne ↦ with-new more (list ++ (from + more) ∷ []) from k low (omega (arith, high, ne))
]
