-- How often a number stands in a list.
use Rattle.std.proofs.Common.{◌≡◌, ◌≢◌, ◌⊎◌, inl, inr, ℕ, zero, suc, get_or, ◌+◌, ◌<◌, ◌≤◌, true, false, List, [], ◌∷◌, ◌++◌, length, refl, ap, sym, ◌∙◌, subst, arith, eq-eqb}
use Rattle.std.specs.Prelude.{nat_eq, Contains}
use Rattle.std.specs.List.{AllByRecursion, IsDistinct}
use Rattle.std.proofs.lemmas.Bool.{cases_eq, ne_eqb}
use Rattle.cfb_siblings.specs.Painted.{hit, times_in}

pub hit-same : (n : ℕ) → hit n n ≡ 1
unfolding hit
hit-same n = grind arith

pub hit-none : (n m : ℕ) → hit n m ≡ 0 → n ≢ m
hit-none n m h e = absurd (omega (arith, hit-same n, ap (hit n) e))

pub hit-cases : (n m : ℕ) → (n ≡ m) ⊎ (hit n m ≡ 0)
unfolding hit
hit-cases n m = elim (cases_eq n m) [ inl e ↦ inl e | inr e ↦ inr (grind arith) ]

pub hit-small : (k n : ℕ) → hit k n ≤ 1
hit-small k n = elim (hit-cases k n) [ inl e ↦ omega (arith, hit-same n, ap (λ j. hit j n) e) | inr z ↦ omega (arith, z) ]

pub tally-append : (k : ℕ) (xs ys : List ℕ) → times_in k (xs ++ ys) ≡ times_in k xs + times_in k ys
unfolding times_in
tally-append k [] ys = omega arith
tally-append k (x ∷ xs) ys = omega (arith, tally-append k xs ys)

pub tally-some : (n : ℕ) (list : List ℕ) (k : ℕ) → k < length list → get_or list k 0 ≡ n → 1 ≤ times_in n list
unfolding times_in
tally-some n [] k lt e = absurd (omega (arith, lt))
tally-some n (x ∷ xs) zero lt e = omega (arith, hit-same n, ap (hit n) e)
tally-some n (x ∷ xs) (suc k) lt e = omega (arith, tally-some n xs k (omega (arith, lt)) e)

pub tally-none : (n : ℕ) (list : List ℕ) → ((k : ℕ) → k < length list → get_or list k 0 ≢ n) → times_in n list ≡ 0
unfolding times_in
tally-none n [] f = refl
tally-none n (x ∷ xs) f = elim (hit-cases n x) [
  | inl e ↦ absurd (f 0 (omega arith) (sym e))
  | inr z ↦ omega (arith, z, tally-none n xs (λ k lt. f (suc k) (omega (arith, lt))))
]

-- ---- members

pub counted : (k : ℕ) (list : List ℕ) → Contains list k → 1 ≤ times_in k list
unfolding times_in
counted k [] (i, lt, e) = absurd (omega (arith, lt))
counted k (x ∷ xs) (zero, lt, e) = omega (arith, hit-same x, ap (λ j. hit j x) e)
counted k (x ∷ xs) (suc i, lt, e) = omega (arith, counted k xs (i, omega (arith, lt), e))

pub present : (k : ℕ) (list : List ℕ) → 1 ≤ times_in k list → Contains list k
unfolding times_in
present k [] h = absurd (omega (arith, h))
present k (x ∷ xs) h = elim (hit-cases k x) [
  | inl e ↦ (0, omega arith, sym e)
  | inr z ↦ let (i, lt, e) = present k xs (omega (arith, h, z)) in (suc i, omega (arith, lt), e)
]

pub outside : (k : ℕ) (list : List ℕ) → times_in k list ≡ 0 → Contains list k → ⊥
outside k list z h = absurd (omega (arith, z, counted k list h))

pub uncounted : (k : ℕ) (list : List ℕ) → (Contains list k → ⊥) → times_in k list ≡ 0
uncounted k list f = elim (cases_eq (times_in k list) 0) [ inl e ↦ e | inr ne ↦ absurd (f (present k list (omega (arith, ne)))) ]

pub all-at : (P : ℕ → Type 0) (list : List ℕ) (k : ℕ) → AllByRecursion P list → 1 ≤ times_in k list → P k
unfolding times_in
all-at P [] k a h = absurd (omega (arith, h))
all-at P (x ∷ xs) k a h = elim (hit-cases k x) [ inl e ↦ subst P (sym e) a.0 | inr z ↦ all-at P xs k a.1 (omega (arith, h, z)) ]

-- ---- numbers that stand once

pub all-not : (x : ℕ) (xs : List ℕ) → AllByRecursion (λ y. nat_eq x y ≡ false) xs → times_in x xs ≡ 0
unfolding times_in
all-not x [] a = refl
all-not x (y ∷ ys) a = elim (hit-cases x y) [
  | inl e ↦ absurd (let q : false ≡ true = sym a.0 ∙ eq-eqb x y e in cc)
  | inr z ↦ omega (arith, z, all-not x ys a.1)
]

pub distinct-once : (list : List ℕ) → IsDistinct nat_eq list → (k : ℕ) → times_in k list ≤ 1
unfolding times_in IsDistinct
distinct-once [] d k = omega arith
distinct-once (x ∷ xs) d k = elim (hit-cases k x) [
  | inl e ↦ omega (arith, hit-small k x, ap (λ j. times_in j xs) e, all-not x xs d.0)
  | inr z ↦ omega (arith, z, distinct-once xs d.1 k)
]

not-all : (x : ℕ) (xs : List ℕ) → times_in x xs ≡ 0 → AllByRecursion (λ y. nat_eq x y ≡ false) xs
unfolding times_in
not-all x [] z = tt
not-all x (y ∷ ys) z = (ne_eqb x y (hit-none x y (omega (arith, z))), not-all x ys (omega (arith, z)))

pub once-distinct : (list : List ℕ) → ((k : ℕ) → times_in k list ≤ 1) → IsDistinct nat_eq list
unfolding times_in IsDistinct
once-distinct [] f = tt
once-distinct (x ∷ xs) f = (not-all x xs (omega (arith, f x, hit-same x)), once-distinct xs (λ k. omega (arith, f k)))
