-- Tests that compute, for facts on long lists.
use Rattle.std.proofs.Common.{◌≡◌, ◌≤◌, ◌<◌, ◌+◌, ℕ, zero, suc, List, [], ◌∷◌, Bool, true, false, refl, sym, subst, ◌&&◌, arith, ap}
use Rattle.std.specs.Prelude.{nat_eq, not, if◌then◌else◌}
use Rattle.std.specs.List.{IsDistinct, list_any, list_all, range_with_len}
use Rattle.std.proofs.lemmas.Map.Views.{exact_unsigned_eq}
use Rattle.std.proofs.lemmas.Bool.{eqb-false}
use Rattle.cfb_format.proofs.Chains.{both_true, none_from}
use Rattle.cfb_format.specs.Header.{IfStrict}
use Rattle.cfb_format.specs.declared.validate.Validation.TheVariants.{Permissive, Strict}
use Rattle.cfb_format.specs.declared.validate.Validation.{Validation}

abbrev pub is_distinct : List ℕ → Bool
is_distinct [] = true
is_distinct (x ∷ xs) = not (list_any (nat_eq x) xs) && is_distinct xs

both : (a b : Bool) → not a && b ≡ true → (a ≡ false) × (b ≡ true)
both true b e = cc
both false b e = (refl, e)

pub distinct_by_test : (xs : List ℕ) → is_distinct xs ≡ true → IsDistinct nat_eq xs
unfolding IsDistinct
distinct_by_test [] e = tt
distinct_by_test (x ∷ xs) e =
    let two = both (list_any (nat_eq x) xs) (is_distinct xs) e in
    (none_from (nat_eq x) xs two.0, distinct_by_test xs two.1)

-- a test that every number of a range passes
pub by_range : (p : ℕ → Bool) (n s : ℕ) → list_all p (range_with_len s n) ≡ true → (i : ℕ) → s ≤ i → i < s + n → p i ≡ true
by_range p zero s e i low high = absurd (omega arith)
by_range p (suc n) s e i low high = go (nat_eq i s) refl (λ l h. by_range p n (s + 1) (both_true (p s) (list_all p (range_with_len (s + 1) n)) e).1 i l h)
  where
    go : (b : Bool) → nat_eq i s ≡ b → (s + 1 ≤ i → i < (s + 1) + n → p i ≡ true) → p i ≡ true
    go true h next = subst (λ k. p k ≡ true) (sym (exact_unsigned_eq i s h)) (both_true (p s) (list_all p (range_with_len (s + 1) n)) e).0
    go false h next = let ne : i ≡ s → ⊥ = eqb-false i s h in next (omega (arith, ne)) (omega arith)

pub if-true : {X : Type 0} (b : Bool) (x y : X) → b ≡ true → (if b then x else y) ≡ x
if-true b x y e = ap (λ (c : Bool). if c then x else y) e

pub if-false : {X : Type 0} (b : Bool) (x y : X) → b ≡ false → (if b then x else y) ≡ y
if-false b x y e = ap (λ (c : Bool). if c then x else y) e

-- what follows from a demand of strict opening is one
pub if_strict : (validation : Validation) (P Q : Type 0) → (P → Q) → IfStrict validation P → IfStrict validation Q
if_strict Permissive P Q f p = tt
if_strict Strict P Q f p = f p
