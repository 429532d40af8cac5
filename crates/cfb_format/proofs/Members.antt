-- Members of lists of numbers.
use Rattle.std.specs.Prelude.{Contains, nat_eq, flat_map, ◌&&◌}
use Rattle.std.proofs.Common.{List, ℕ, arith, refl, ◌∷◌, suc, [], inl, inr, zero, ◌≡◌, ◌⊎◌, ap, ◌++◌, false, ne_eqb, sym, subst, Bool, true, ◌||◌, ◌∙◌, ◌+◌}
use Rattle.std.proofs.lemmas.Bool.{cases_eq, eqb-false}
use Rattle.std.specs.List.{AllByRecursion, IsDistinct, list_any, list_all}
use Rattle.std.proofs.lemmas.List.Elements.{Contains-append_left, Contains-append_right, Contains-append_cases}
use Rattle.std.proofs.lemmas.Map.Views.{exact_unsigned_eq}
use Rattle.cfb_format.specs.Fat.{is_among}

abbrev pub AreApart : List ℕ → List ℕ → Type 0
AreApart xs ys = (i : ℕ) → Contains xs i → Contains ys i → ⊥

pub Contains-here : (x : ℕ) (xs : List ℕ) → Contains (x ∷ xs) x
Contains-here x xs = (0, omega arith, refl)

pub Contains-there : (y : ℕ) (xs : List ℕ) (x : ℕ) → Contains xs x → Contains (y ∷ xs) x
Contains-there y xs x (k, lt, is) = (suc k, omega arith, is)

pub Contains-nil : (x : ℕ) → Contains [] x → ⊥
Contains-nil x (k, lt, is) = omega arith

pub Contains-cases : (y : ℕ) (xs : List ℕ) (x : ℕ) → Contains (y ∷ xs) x → (y ≡ x) ⊎ Contains xs x
Contains-cases y xs x (zero, lt, is) = inl is
Contains-cases y xs x (suc k, lt, is) = inr (k, omega arith, is)

pub Contains-one : (y x : ℕ) → Contains (y ∷ []) x → y ≡ x
Contains-one y x m = elim (Contains-cases y [] x m) [ inl e ↦ e | inr r ↦ absurd (Contains-nil x r) ]

pub Contains-or : (xs : List ℕ) (x : ℕ) → Contains xs x ⊎ (Contains xs x → ⊥)
Contains-or [] x = inr (λ m. Contains-nil x m)
Contains-or (y ∷ xs) x =
    elim (cases_eq y x) [
      | inl e ↦ inl (0, omega arith, e)
      | inr ne ↦ elim (Contains-or xs x) [
        | inl m ↦ inl (Contains-there y xs x m)
        | inr out ↦ inr (λ m. elim (Contains-cases y xs x m) [ inl e ↦ ne e | inr r ↦ out r ])
      ]
    ]

-- a member splits the list
pub Contains-split : (xs : List ℕ) (x : ℕ) → Contains xs x → (front : List ℕ) × (back : List ℕ) × (xs ≡ front ++ x ∷ back)
Contains-split [] x c = absurd (Contains-nil x c)
Contains-split (y ∷ xs) x c =
    elim (Contains-cases y xs x c) [
      | inl e ↦ ([], xs, ap (λ z. z ∷ xs) e)
      | inr r ↦ let s = Contains-split xs x r in (y ∷ s.0, s.1, ap (λ z. y ∷ z) s.2)
    ]

pub distinct-cons : (x : ℕ) (xs : List ℕ) → (Contains xs x → ⊥) → AllByRecursion (λ y. nat_eq x y ≡ false) xs
distinct-cons x [] out = tt
distinct-cons x (y ∷ ys) out = (ne_eqb x y (λ e. out (0, omega arith, sym e)), distinct-cons x ys (λ m. out (Contains-there y ys x m)))

pub cons-distinct : (x : ℕ) (xs : List ℕ) → AllByRecursion (λ y. nat_eq x y ≡ false) xs → Contains xs x → ⊥
cons-distinct x [] a m = Contains-nil x m
cons-distinct x (y ∷ ys) a m = elim (Contains-cases y ys x m) [ inl e ↦ eqb-false x y a.0 (sym e) | inr r ↦ cons-distinct x ys a.1 r ]

pub none_distinct : IsDistinct nat_eq []
unfolding IsDistinct
none_distinct = tt

pub one_distinct : (x : ℕ) → IsDistinct nat_eq (x ∷ [])
unfolding IsDistinct
one_distinct x = (tt, tt)

pub distinct-left : (xs ys : List ℕ) → IsDistinct nat_eq (xs ++ ys) → IsDistinct nat_eq xs
unfolding IsDistinct
distinct-left [] ys d = tt
distinct-left (x ∷ xs) ys d = (distinct-cons x xs (λ m. cons-distinct x (xs ++ ys) d.0 (Contains-append_left xs ys x m)), distinct-left xs ys d.1)

pub distinct-right : (xs ys : List ℕ) → IsDistinct nat_eq (xs ++ ys) → IsDistinct nat_eq ys
unfolding IsDistinct
distinct-right [] ys d = d
distinct-right (x ∷ xs) ys d = distinct-right xs ys d.1

pub distinct-apart : (xs ys : List ℕ) → IsDistinct nat_eq (xs ++ ys) → AreApart xs ys
unfolding IsDistinct
distinct-apart [] ys d x m n = Contains-nil x m
distinct-apart (y ∷ xs) ys d x m n = elim (Contains-cases y xs x m) [
  | inl e ↦ cons-distinct y (xs ++ ys) d.0 (Contains-append_right xs ys y (subst (Contains ys) (sym e) n))
  | inr r ↦ distinct-apart xs ys d.1 x r n
]

pub distinct-join : (xs ys : List ℕ) → IsDistinct nat_eq xs → IsDistinct nat_eq ys → AreApart xs ys → IsDistinct nat_eq (xs ++ ys)
unfolding IsDistinct
distinct-join [] ys d e a = e
distinct-join (x ∷ xs) ys d e a = (
  distinct-cons x (xs ++ ys) (λ m. elim (Contains-append_cases xs ys x m) [ inl r ↦ cons-distinct x xs d.0 r | inr r ↦ a x (Contains-here x xs) r ]),
  distinct-join xs ys d.1 e (λ y m n. a y (Contains-there x xs y m) n),
)

pub distinct-push : (xs : List ℕ) (x : ℕ) → IsDistinct nat_eq xs → (Contains xs x → ⊥) → IsDistinct nat_eq (xs ++ x ∷ [])
distinct-push xs x d out = distinct-join xs (x ∷ []) d (one_distinct x) (λ y m n. out (subst (Contains xs) (sym (Contains-one x y n)) m))

-- the test and the relation
pub among-Contains : (xs : List ℕ) (x : ℕ) → is_among xs x ≡ true → Contains xs x
among-Contains [] x e = cc
among-Contains (y ∷ xs) x e = go (nat_eq y x) refl e (λ f. among-Contains xs x f)
  where
    go : (b : Bool) → nat_eq y x ≡ b → (b || is_among xs x) ≡ true → (is_among xs x ≡ true → Contains xs x) → Contains (y ∷ xs) x
    go true h f more = (0, omega arith, exact_unsigned_eq y x h)
    go false h f more = Contains-there y xs x (more f)

pub Contains-among : (xs : List ℕ) (x : ℕ) → Contains xs x → is_among xs x ≡ true
Contains-among [] x m = absurd (Contains-nil x m)
Contains-among (y ∷ xs) x m = go (nat_eq y x) refl (Contains-cases y xs x m) (λ r. Contains-among xs x r)
  where
    go : (b : Bool) → nat_eq y x ≡ b → (y ≡ x) ⊎ Contains xs x → (Contains xs x → is_among xs x ≡ true) → (b || is_among xs x) ≡ true
    go true h c more = refl
    go false h (inl e) more = absurd (eqb-false y x h e)
    go false h (inr r) more = more r

pub among-not : (xs : List ℕ) (x : ℕ) → is_among xs x ≡ false → Contains xs x → ⊥
among-not xs x e m = let f : true ≡ false = sym (Contains-among xs x m) ∙ e in cc

pub not-among : (xs : List ℕ) (x : ℕ) → (Contains xs x → ⊥) → is_among xs x ≡ false
not-among xs x out = go (is_among xs x) refl
  where
    go : (b : Bool) → is_among xs x ≡ b → b ≡ false
    go true e = absurd (out (among-Contains xs x e))
    go false e = refl

pub any-Contains : (xs : List ℕ) (x : ℕ) → list_any (nat_eq x) xs ≡ true → Contains xs x
any-Contains [] x e = cc
any-Contains (y ∷ xs) x e = go (nat_eq x y) refl e (λ f. any-Contains xs x f)
  where
    go : (b : Bool) → nat_eq x y ≡ b → (b || list_any (nat_eq x) xs) ≡ true → (list_any (nat_eq x) xs ≡ true → Contains xs x) → Contains (y ∷ xs) x
    go true h f more = (0, omega arith, sym (exact_unsigned_eq x y h))
    go false h f more = Contains-there y xs x (more f)

pub flat-Contains : (f : ℕ → List ℕ) (xs : List ℕ) (x : ℕ) → Contains (flat_map f xs) x → (k : ℕ) × Contains xs k × Contains (f k) x
flat-Contains f [] x m = absurd (Contains-nil x m)
flat-Contains f (y ∷ xs) x m = elim (Contains-append_cases (f y) (flat_map f xs) x m) [
  | inl l ↦ (y, Contains-here y xs, l)
  | inr r ↦ let n = flat-Contains f xs x r in (n.0, Contains-there y xs n.0 n.1, n.2)
]

pub same_flat : (f g : ℕ → List ℕ) (xs : List ℕ) → ((j : ℕ) → Contains xs j → g j ≡ f j) → flat_map g xs ≡ flat_map f xs
same_flat f g [] h = refl
same_flat f g (x ∷ xs) h = λ i. h x (Contains-here x xs) i ++ same_flat f g xs (λ j m. h j (Contains-there x xs j m)) i

pub every_member : (p : ℕ → Bool) (xs : List ℕ) → list_all p xs ≡ true → (i : ℕ) → Contains xs i → p i ≡ true
every_member p [] e i m = absurd (Contains-nil i m)
every_member p (x ∷ xs) e i m = go (p x) refl e (λ f. every_member p xs f i) (Contains-cases x xs i m)
  where
    go : (b : Bool) → p x ≡ b → b && list_all p xs ≡ true → (list_all p xs ≡ true → Contains xs i → p i ≡ true) → (x ≡ i) ⊎ Contains xs i → p i ≡ true
    go true h f next (inl at) = sym (ap p at) ∙ h
    go true h f next (inr r) = next f r
    go false h f next c = cc
