-- A table once some numbers are free, and how long it is without the free ones at its end.
use Rattle.std.proofs.Common.{◌≡◌, ◌≢◌, inl, inr, ℕ, ◌-◌, ◌<◌, ◌≤◌, Bool, true, false, List, [], ◌∷◌, length, set, get_or, refl, sym, ◌∙◌, ap, subst, arith, length-set, length-take, eq-eqb, ne_eqb}
use Rattle.std.specs.Prelude.{◌↔◌, ◌==◌, Contains, Err, IsTrue, Ok, Result, is_ok, slice_index}
use Rattle.std.specs.List.{suffix_len}
use Rattle.std.specs.List.Sorted.{IsBinarySearchResult, IsNonDecreasing, IsPermutation}
use Rattle.std.specs.Ordering.{nat_cmp}
use Rattle.std.proofs.lemmas.Bool.{cases_eq, cases_lt}
use Rattle.std.proofs.lemmas.Grind.{same_number_lists}
use Rattle.std.proofs.lemmas.List.{get_or_default}
use Rattle.std.proofs.lemmas.List.Sorted.{Contains-permutation, IsPermutation-sym, searched}
use Rattle.std.proofs.lemmas.List.Sums.{suffix_len_is}
use Rattle.cfb_format.specs.Bytes.{free_sector}
use Rattle.cfb_format.specs.Chain.{value}
use Rattle.cfb_format.specs.Fat.{without_end}
use Rattle.cfb_format.specs.Full.{freed}
use Rattle.cfb_tables.specs.Tables.{wiped}
use Rattle.cfb_tables.proofs.Members.{value-past, value-set, value-set_other}
use Rattle.cfb_format.proofs.Members.{Contains-cases, Contains-here, Contains-nil, Contains-or, Contains-there}
use Rattle.cfb_format.proofs.Walks.{value-at}

-- it is what the tables call wiped
pub freed-is-wiped : (list table : List ℕ) → freed table list ≡ wiped table list
freed-is-wiped [] table = refl
freed-is-wiped (x ∷ list) table = freed-is-wiped list (set table x free_sector)

pub freed-length : (list table : List ℕ) → length (freed table list) ≡ length table
freed-length [] table = refl
freed-length (x ∷ list) table = freed-length list (set table x free_sector) ∙ length-set table x free_sector

-- a number that is made free is free, be it one of the table or not
set-free : (table : List ℕ) (x : ℕ) → value (set table x free_sector) x ≡ free_sector
set-free table x = elim (cases_lt x (length table)) [
  | inl lt ↦ value-set table x free_sector lt
  | inr past ↦ (let len = length-set table x free_sector in value-past (set table x free_sector) x (omega (arith, len, past)))
]

free-stays : (list table : List ℕ) (i : ℕ) → value table i ≡ free_sector → value (freed table list) i ≡ free_sector
free-stays [] table i is = is
free-stays (x ∷ list) table i is = free-stays list (set table x free_sector) i (elim (cases_eq i x) [
  | inl e ↦ ap (value (set table x free_sector)) e ∙ set-free table x
  | inr ne ↦ value-set_other table x i free_sector ne ∙ is
])

pub freed-free : (list table : List ℕ) (i : ℕ) → Contains list i → value (freed table list) i ≡ free_sector
freed-free [] table i m = absurd (Contains-nil i m)
freed-free (x ∷ list) table i m = elim (Contains-cases x list i m) [
  | inl e ↦ free-stays list (set table x free_sector) i (ap (value (set table x free_sector)) (sym e) ∙ set-free table x)
  | inr r ↦ freed-free list (set table x free_sector) i r
]

pub freed-other : (list table : List ℕ) (i : ℕ) → (Contains list i → ⊥) → value (freed table list) i ≡ value table i
freed-other [] table i out = refl
freed-other (x ∷ list) table i out =
    freed-other list (set table x free_sector) i (λ r. out (Contains-there x list i r))
    ∙ value-set_other table x i free_sector (λ e. out (subst (λ k. Contains (x ∷ list) k) (sym e) (Contains-here x list)))

-- in whatever order they are made free
pub freed-permuted : (table xs ys : List ℕ) → IsPermutation xs ys → freed table ys ≡ freed table xs
freed-permuted table xs ys moved =
    let a = freed-length xs table in
    let b = freed-length ys table in
    let len : length (freed table ys) ≡ length (freed table xs) = omega (arith, a, b) in
    same_number_lists (freed table ys) (freed table xs) len (λ k lt.
    sym (value-at (freed table ys) k lt) ∙ same k ∙ value-at (freed table xs) k (omega (arith, lt, len)))
  where
    same : (k : ℕ) → value (freed table ys) k ≡ value (freed table xs) k
    same k = elim (Contains-or xs k) [
      | inl m ↦ freed-free ys table k (Contains-permutation xs ys k moved m) ∙ sym (freed-free xs table k m)
      | inr out ↦ freed-other ys table k (λ m. out (Contains-permutation ys xs k (IsPermutation-sym xs ys moved) m)) ∙ sym (freed-other xs table k out)
    ]

-- ---- what a search among them tells

is-among : (xs : List ℕ) (x : ℕ) (r : Result ℕ ℕ) → IsNonDecreasing xs → IsBinarySearchResult (λ y. nat_cmp y x) xs r → IsTrue (is_ok r) ↔ Contains xs x
is-among xs x (Ok i) up found =
    let at = searched xs x (Ok i) found (λ a b le lt. up a b 0 le lt) in
    ((λ yes. subst (Contains xs) at.1 (i, at.0, refl-at xs i at.0)), (λ m. refl))
  where
    refl-at : (ys : List ℕ) (i : ℕ) → i < length ys → get_or ys i (get_or ys i 0) ≡ get_or ys i 0
    refl-at ys i lt = get_or_default ys i (get_or ys i 0) 0 lt
is-among xs x (Err i) up found =
    let gap = searched xs x (Err i) found (λ a b le lt. up a b 0 le lt) in (
      (λ no. absurd (let clash : false ≡ true = no in cc)),
      (λ m. absurd (
          let k = m.0 in
          let lt = m.1 in
          let is : get_or xs k 0 ≡ x = get_or_default xs k 0 x lt ∙ m.2 in
          elim (cases_lt k i) [
            | inl below ↦ (let low = gap.1 k below in omega (arith, low, is))
            | inr above ↦ (let high = gap.2 k above lt in omega (arith, high, is))
          ])),
    )

-- a value is free then that is free or made so
pub free-then : (table list : List ℕ) (i : ℕ) → value table i ≢ free_sector → Contains list i ↔ (value (freed table list) i ≡ free_sector)
free-then table list i busy = (
  (λ m. freed-free list table i m),
  (λ is. elim (Contains-or list i) [ inl m ↦ m | inr out ↦ absurd (busy (sym (freed-other list table i out) ∙ is)) ]),
)

pub free-now : (table list : List ℕ) (i : ℕ) → value table i ≡ free_sector → value (freed table list) i ≡ free_sector
free-now table list i is = free-stays list table i is

pub searched-free : (table rising : List ℕ) (i : ℕ) (r : Result ℕ ℕ) → IsNonDecreasing rising → IsBinarySearchResult (λ y. nat_cmp y i) rising r → value table i ≢ free_sector
    → IsTrue (is_ok r) ↔ (value (freed table rising) i ≡ free_sector)
searched-free table rising i r up found busy =
    let among = is-among rising i r up found in
    let then = free-then table rising i busy in
    ((λ yes. then.0 (among.0 yes)), (λ is. among.1 (then.1 is)))

-- ---- the end of a table

is-free : ℕ → Bool
is-free word = word == free_sector

-- so long is a table without the free ones at its end
pub ends-at : (table : List ℕ) (n : ℕ) → n ≤ length table → ((k : ℕ) → n ≤ k → k < length table → value table k ≡ free_sector)
    → (0 < n → value table (n - 1) ≢ free_sector) → n ≡ length (without_end (λ word. word == free_sector) table)
ends-at table n within rest last =
    let is = suffix_len_is (λ word. word == free_sector) table n 0 within
    (λ k low high. eq-eqb (slice_index table k) free_sector (sym (value-at table k high) ∙ rest k low high))
    (λ some. ne_eqb (slice_index table (n - 1)) free_sector (λ e. last some (value-at table (n - 1) (omega (arith, some, within)) ∙ e))) in
    let cut = length-take (length table - suffix_len (λ word. word == free_sector) table) table in
    omega (arith, is, cut, within)

pub ends-freed : (table list : List ℕ) (n : ℕ) → n ≤ length table → ((k : ℕ) → n ≤ k → k < length table → value (freed table list) k ≡ free_sector)
    → (0 < n → value (freed table list) (n - 1) ≢ free_sector) → n ≡ length (without_end (λ word. word == free_sector) (freed table list))
ends-freed table list n within rest last =
    let len = freed-length list table in
    ends-at (freed table list) n (omega (arith, within, len)) (λ k low high. rest k low (omega (arith, high, len))) last
