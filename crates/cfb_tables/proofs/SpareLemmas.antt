-- The free numbers as a list keeps them that has a row of numbers in its midst.
use Rattle.std.proofs.Common.{◌≡◌, ◌+◌, ◌-◌, ◌<◌, ◌≤◌, ℕ, zero, suc, List, [], ◌∷◌, ◌++◌, refl, sym, ◌∙◌, ap, subst, length, take, drop, arith, append-nil}
use Rattle.std.specs.List.{range_with_len}
use Rattle.std.proofs.lemmas.List.{append_assoc, drop-append-le, drop_all, map-id, take-append-drop, take-append-le, take_all}
use Rattle.std.proofs.lemmas.List.FromFn.{map-range_with_len_more}
use Rattle.cfb_format.specs.Bytes.{free_sector}
use Rattle.cfb_format.specs.Chain.{value}
use Rattle.cfb_tables.specs.Changes.{ListsFree}
use Rattle.cfb_tables.proofs.FreeLemmas.{lists-more}

-- the first so many, the row, and the others
abbrev pub spare-items : ℕ → ℕ → ℕ → List ℕ → List ℕ
spare-items early first end v = take early v ++ range_with_len first (end - first) ++ drop early v

pub row-more : (a n : ℕ) → range_with_len a (n + 1) ≡ range_with_len a n ++ (a + n) ∷ []
row-more a n =
    sym (map-id (range_with_len a (n + 1))) ∙ map-range_with_len_more (λ (x : ℕ). x) a n (a + n) refl
    ∙ ap (λ (l : List ℕ). l ++ (a + n) ∷ []) (map-id (range_with_len a n))

-- with none behind the row, what stands is the others and the row
none-late : (early first end : ℕ) (v : List ℕ) → length v ≤ early → spare-items early first end v ≡ take early v ++ range_with_len first (end - first)
none-late early first end v few =
    ap (λ (d : List ℕ). take early v ++ range_with_len first (end - first) ++ d) (drop_all early v few) ∙ append-nil (take early v ++ range_with_len first (end - first))

-- and with no row, the list alone
pub no-row : (early first end : ℕ) (v : List ℕ) → end ≤ first → spare-items early first end v ≡ v
no-row early first end v none =
    let long : end - first ≡ 0 = omega (arith, none) in
    ap (λ n. take early v ++ range_with_len first n ++ drop early v) long
    ∙ ap (λ (l : List ℕ). l ++ drop early v) (append-nil (take early v)) ∙ take-append-drop early v

-- the last number of the row is taken
pub pop-row : (early first end : ℕ) (v : List ℕ) → length v ≤ early → first < end
    → spare-items early first end v ≡ spare-items early first (end - 1) v ++ (end - 1) ∷ []
pop-row early first end v few some =
    let long : end - first ≡ end - 1 - first + 1 = omega (arith, some) in
    let last : first + (end - 1 - first) ≡ end - 1 = omega (arith, some) in
    let row : range_with_len first (end - first) ≡ range_with_len first (end - 1 - first) ++ (end - 1) ∷ [] =
    ap (λ n. range_with_len first n) long ∙ row-more first (end - 1 - first) ∙ ap (λ (x : ℕ). range_with_len first (end - 1 - first) ++ x ∷ []) last in
    none-late early first end v few ∙ ap (λ (r : List ℕ). take early v ++ r) row
    ∙ sym (append_assoc (take early v) (range_with_len first (end - 1 - first)) ((end - 1) ∷ []))
    ∙ ap (λ (l : List ℕ). l ++ (end - 1) ∷ []) (sym (none-late early first (end - 1) v few))

-- a number that stands behind the row
pub push-late : (early first end : ℕ) (v : List ℕ) (x : ℕ) → early ≤ length v → spare-items early first end (v ++ x ∷ []) ≡ spare-items early first end v ++ x ∷ []
push-late early first end v x least =
    ap (λ (l : List ℕ). l ++ range_with_len first (end - first) ++ drop early (v ++ x ∷ [])) (take-append-le early v (x ∷ []) least)
    ∙ ap (λ (l : List ℕ). take early v ++ range_with_len first (end - first) ++ l) (drop-append-le early v (x ∷ []) least)
    ∙ sym (append_assoc (take early v ++ range_with_len first (end - first)) (drop early v) (x ∷ []))

-- and one before it, where the row is empty
pub pop-early : (early less first end : ℕ) (v : List ℕ) (x : ℕ) → end ≤ first → spare-items early first end (v ++ x ∷ []) ≡ spare-items less first end v ++ x ∷ []
pop-early early less first end v x none =
    no-row early first end (v ++ x ∷ []) none ∙ ap (λ (l : List ℕ). l ++ x ∷ []) (sym (no-row less first end v none))

-- ---- the free numbers of a table that ends with a row of them

lists-row : (k first : ℕ) (free table : List ℕ) → ListsFree first free table → ((i : ℕ) → first ≤ i → i < first + k → value table i ≡ free_sector)
    → ListsFree (first + k) (free ++ range_with_len first k) table
lists-row zero first free table f row =
    subst (λ (l : List ℕ). ListsFree (first + 0) l table) (sym (append-nil free)) (subst (λ n. ListsFree n free table) (let e : first ≡ first + 0 = omega arith in e) f)
lists-row (suc k) first free table f row =
    let before = lists-row k first free table f (λ i from lt. row i from (omega (arith, lt))) in
    let more = lists-more (first + k) (free ++ range_with_len first k) table (row (first + k) (omega arith) (omega arith)) before in
    let one : k + 1 ≡ suc k = omega arith in
    let end : first + k + 1 ≡ first + suc k = omega arith in
    subst (λ n. ListsFree n (free ++ range_with_len first (suc k)) table) end
    (subst (λ n. ListsFree (first + k + 1) (free ++ range_with_len first n) table) one
    (subst (λ (l : List ℕ). ListsFree (first + k + 1) l table)
    (append_assoc free (range_with_len first k) ((first + k) ∷ []) ∙ ap (λ (l : List ℕ). free ++ l) (sym (row-more first k))) more))

pub lists-spare : (first end : ℕ) (v table : List ℕ) → first ≤ end → ListsFree first v table → ((i : ℕ) → first ≤ i → i < end → value table i ≡ free_sector)
    → ListsFree end (spare-items (length v) first end v) table
lists-spare first end v table within f row =
    let long : first + (end - first) ≡ end = omega (arith, within) in
    subst (λ (l : List ℕ). ListsFree end l table)
    (sym (none-late (length v) first end v (omega arith) ∙ ap (λ (l : List ℕ). l ++ range_with_len first (end - first)) (take_all (length v) v (omega arith))))
    (subst (λ n. ListsFree n (v ++ range_with_len first (end - first)) table) long
    (lists-row (end - first) first v table f (λ i from lt. row i from (omega (arith, lt, within)))))
