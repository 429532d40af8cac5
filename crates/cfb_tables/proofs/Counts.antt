-- How often numbers stand in lists, and what that says of the numbers in use.
use Rattle.std.proofs.Common.{◌≡◌, ◌≤◌, inl, inr, ◌+◌, ℕ, suc, List, [], ◌∷◌, ◌++◌, Bool, true, false, refl, sym, ◌∙◌, subst, arith}
use Rattle.std.specs.Prelude.{Contains, nat_eq, if◌then◌else◌}
use Rattle.std.specs.List.{IsDistinct}
use Rattle.std.proofs.lemmas.Bool.{eqb-true, eq-eqb, ne_eqb}
use Rattle.std.proofs.lemmas.List.Elements.{Contains-append_cases, Contains-append_right}
use Rattle.cfb_tables.specs.Owners.{tally, TallyOfBoth, TakingByCount, FreeingByCount}
use Rattle.cfb_format.proofs.Members.{Contains-nil, Contains-or, Contains-cases, Contains-here, Contains-there, distinct-cons, cons-distinct}

pub tally-append : TallyOfBoth
tally-append k [] ys = omega arith
tally-append k (x ∷ xs) ys = go (nat_eq k x) (tally-append k xs ys)
  where
    go : (b : Bool) → tally k (xs ++ ys) ≡ tally k xs + tally k ys
        → (if b then suc (tally k (xs ++ ys)) else tally k (xs ++ ys)) ≡ (if b then suc (tally k xs) else tally k xs) + tally k ys
    go true h = omega (arith, h)
    go false h = h

-- ---- counts and members

one-more : (b : Bool) (n : ℕ) → n ≤ (if b then suc n else n)
one-more true n = omega arith
one-more false n = omega arith

pub tally-in : (k : ℕ) (xs : List ℕ) → Contains xs k → 1 ≤ tally k xs
tally-in k [] c = absurd (Contains-nil k c)
tally-in k (x ∷ xs) c = elim (Contains-cases x xs k c) [
  | inl e ↦ subst (λ b. 1 ≤ (if b then suc (tally k xs) else tally k xs)) (sym (eq-eqb k x (sym e))) (omega arith)
  | inr m ↦ let h = tally-in k xs m in let w = one-more (nat_eq k x) (tally k xs) in omega (arith, h, w)
]

pub tally-out : (k : ℕ) (xs : List ℕ) → (Contains xs k → ⊥) → tally k xs ≡ 0
tally-out k [] out = refl
tally-out k (x ∷ xs) out = subst (λ b. (if b then suc (tally k xs) else tally k xs) ≡ 0) (sym (ne_eqb k x (λ e. out (subst (λ z. Contains (x ∷ xs) z) (sym e) (Contains-here x xs)))))
    (tally-out k xs (λ m. out (Contains-there x xs k m)))

pub in-tally : (k : ℕ) (xs : List ℕ) → 1 ≤ tally k xs → Contains xs k
in-tally k xs h = elim (Contains-or xs k) [ inl m ↦ m | inr out ↦ absurd (let z = tally-out k xs out in omega (arith, h, z)) ]

pub distinct-tally : (k : ℕ) (xs : List ℕ) → IsDistinct nat_eq xs → tally k xs ≤ 1
unfolding IsDistinct
distinct-tally k [] d = omega arith
distinct-tally k (x ∷ xs) d = go (nat_eq k x) refl (distinct-tally k xs d.1)
  where
    go : (b : Bool) → nat_eq k x ≡ b → tally k xs ≤ 1 → (if b then suc (tally k xs) else tally k xs) ≤ 1
    go true e r = let z = tally-out k xs (λ m. cons-distinct x xs d.0 (subst (λ y. Contains xs y) (eqb-true k x e) m)) in omega (arith, z)
    go false e r = r

pub tally-distinct : (xs : List ℕ) → ((k : ℕ) → tally k xs ≤ 1) → IsDistinct nat_eq xs
unfolding IsDistinct
tally-distinct [] h = tt
tally-distinct (x ∷ xs) h = (
  distinct-cons x xs (λ m. let a = tally-in x xs m in let b : suc (tally x xs) ≤ 1 = subst (λ b. (if b then suc (tally x xs) else tally x xs) ≤ 1) (eq-eqb x x refl) (h x) in omega (arith, a, b)),
  tally-distinct xs (λ k. let w = one-more (nat_eq k x) (tally k xs) in let l = h k in omega (arith, w, l)),
)

pub taking-by-count : TakingByCount
taking-by-count old new xs more used used' takes in_used busy counted = record {
  distinct = λ d. tally-distinct used' (λ k. elim (Contains-or more k) [
    | inl m ↦ let a = distinct-tally k more takes.once in let z = tally-out k used (λ c. busy k c (takes.fresh k m)) in let e = counted k in omega (arith, a, z, e)
    | inr out ↦ let a = distinct-tally k used d in let z = tally-out k more out in let e = counted k in omega (arith, a, z, e)
  ]);
  there = λ h i c. elim (Contains-or (xs ++ more) i) [
    | inl m ↦ takes.busy i m
    | inr out ↦ λ free. h i (was i c (λ m. out (Contains-append_right xs more i m))) (sym (takes.only i out) ∙ free)
  ];
  taken = λ i c out. elim (Contains-or more i) [ inl m ↦ takes.fresh i m | inr not_more ↦ absurd (out (was i c not_more)) ];
  given_back = λ i c out. absurd (out (in-tally i used' (let a = tally-in i used c in let e = counted i in omega (arith, a, e))));
  stays = λ i out out'. takes.only i (λ m. elim (Contains-append_cases xs more i m) [
    | inl x ↦ out (in_used i x)
    | inr y ↦ out' (in-tally i used' (let a = tally-in i more y in let e = counted i in omega (arith, a, e)))
  ]);
}
  where
    was : (i : ℕ) → Contains used' i → (Contains more i → ⊥) → Contains used i
    was i c out = in-tally i used (let a = tally-in i used' c in let z = tally-out i more out in let e = counted i in omega (arith, a, z, e))

pub freeing-by-count : FreeingByCount
freeing-by-count old new xs gone used used' frees in_used once counted = record {
  distinct = λ d. tally-distinct used' (λ k. let a = distinct-tally k used d in let e = counted k in omega (arith, a, e));
  there = λ h i c. elim (Contains-or xs i) [
    | inl m ↦ frees.busy i m
    | inr out ↦ λ free. h i (smaller i c) (sym (frees.only i (λ m. elim (Contains-append_cases xs gone i m) [ inl x ↦ out x | inr g ↦ apart i c g ])) ∙ free)
  ];
  taken = λ i c out. absurd (out (smaller i c));
  given_back = λ i c out. frees.free i (in-tally i gone (let a = tally-in i used c in let z = tally-out i used' out in let e = counted i in omega (arith, a, z, e)));
  stays = λ i out out'. frees.only i (λ m. elim (Contains-append_cases xs gone i m) [
    | inl x ↦ out' (in_used i x)
    | inr g ↦ out (in-tally i used (let a = tally-in i gone g in let e = counted i in omega (arith, a, e)))
  ]);
}
  where
    smaller : (i : ℕ) → Contains used' i → Contains used i
    smaller i c = in-tally i used (let a = tally-in i used' c in let e = counted i in omega (arith, a, e))

    apart : (i : ℕ) → Contains used' i → Contains gone i → ⊥
    apart i c g = let a = tally-in i used' c in let b = tally-in i gone g in let l = distinct-tally i used once in let e = counted i in omega (arith, a, b, l, e)
