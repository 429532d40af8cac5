-- The list of free numbers, as the table changes.
use Rattle.std.proofs.Common.{◌≡◌, ◌≢◌, ℕ, zero, suc, ◌+◌, ◌-◌, ◌<◌, ◌≤◌, inl, inr, Bool, List, [], ◌∷◌, ◌++◌, length, set, refl, sym, ◌∙◌, ap, subst, arith, cond, ne_eqb, length-set, length-append}
use Rattle.std.specs.Prelude.{Contains, ◌==◌}
use Rattle.cfb_format.specs.Full.{free_count}
use Rattle.std.proofs.lemmas.List.Elements.{Contains-append_left, Contains-push, Contains-push_cases}
use Rattle.std.proofs.lemmas.List.Sums.{sum_by-cons}
use Rattle.std.proofs.lemmas.Bool.{cases_eq, cases_lt}
use Rattle.cfb_format.specs.Bytes.{free_sector}
use Rattle.cfb_format.specs.Chain.{value}
use Rattle.cfb_tables.specs.Changes.{ListsFree, NoneFree, TakesLastFirst}
use Rattle.cfb_tables.proofs.Members.{value-past, value-set, value-set_other, value-left, value-right}
use Rattle.cfb_format.proofs.Members.{Contains-nil, Contains-here, Contains-there, Contains-cases, none_distinct, distinct-left, distinct-right, distinct-apart, distinct-push}
use Rattle.cfb_format.proofs.Walks.{value-below}

-- going up through the table

pub lists-none : (table : List ℕ) → ListsFree 0 [] table
lists-none table = record { once = none_distinct; sound = λ i m. absurd (Contains-nil i m); whole = λ i lt is. absurd (omega (arith, lt)) }

pub lists-more : (n : ℕ) (free table : List ℕ) → value table n ≡ free_sector → ListsFree n free table → ListsFree (n + 1) (free ++ n ∷ []) table
lists-more n free table is f = record {
  once = distinct-push free n f.once (λ m. let lt = (f.sound n m).0 in omega (arith, lt));
  sound = λ i m. elim (Contains-push_cases free n i m) [
    | inl r ↦ let s = f.sound i r in (omega (arith, s.0), s.1)
    | inr e ↦ (omega (arith, e), ap (value table) (sym e) ∙ is)
  ];
  whole = λ i lt free_i. elim (cases_eq i n) [
    | inl e ↦ subst (Contains (free ++ n ∷ [])) (sym e) (Contains-push free n)
    | inr ne ↦ Contains-append_left free (n ∷ []) i (f.whole i (omega (arith, lt, ne)) free_i)
  ];
}

pub lists-skip : (n : ℕ) (free table : List ℕ) → value table n ≢ free_sector → ListsFree n free table → ListsFree (n + 1) free table
lists-skip n free table ne f = record {
  once = f.once;
  sound = λ i m. let s = f.sound i m in (omega (arith, s.0), s.1);
  whole = λ i lt free_i. elim (cases_eq i n) [
    | inl e ↦ absurd (ne (ap (value table) (sym e) ∙ free_i))
    | inr other ↦ f.whole i (omega (arith, lt, other)) free_i
  ];
}

pub next-none : (free table : List ℕ) → TakesLastFirst 0 free table
next-none free table = inl (λ some. absurd (omega (arith, some)))

pub next-more : (n : ℕ) (free table : List ℕ) → TakesLastFirst (n + 1) (free ++ n ∷ []) table
next-more n free table = inr (free, ap (λ (k : ℕ). free ++ k ∷ []) (let e : n ≡ n + 1 - 1 = omega arith in e))

pub next-skip : (n : ℕ) (free table : List ℕ) → value table n ≢ free_sector → TakesLastFirst (n + 1) free table
next-skip n free table ne = inl (λ some e. ne (ap (value table) (let k : n ≡ n + 1 - 1 = omega arith in k) ∙ e))

-- a free number is taken
pub lists-pop : (n : ℕ) (free table : List ℕ) (x w : ℕ) → x < length table → w ≢ free_sector → ListsFree n (free ++ x ∷ []) table → ListsFree n free (set table x w)
lists-pop n free table x w lx busy f =
    let out : Contains free x → ⊥ = λ m. distinct-apart free (x ∷ []) f.once x m (Contains-here x []) in
    record {
      once = distinct-left free (x ∷ []) f.once;
      sound = λ i m.
          let ne : i ≢ x = λ e. out (subst (Contains free) e m) in
          let s = f.sound i (Contains-append_left free (x ∷ []) i m) in
          (s.0, value-set_other table x i w ne ∙ s.1);
      whole = λ i lt is. elim (cases_eq i x) [
        | inl e ↦ absurd (busy (sym (value-set table x w lx) ∙ (ap (value (set table x w)) (sym e) ∙ is)))
        | inr ne ↦ elim (Contains-push_cases free x i (f.whole i lt (sym (value-set_other table x i w ne) ∙ is))) [
          | inl r ↦ r
          | inr e ↦ absurd (ne (sym e))
        ]
      ];
    }

-- a number is freed
pub lists-push : (n : ℕ) (free table : List ℕ) (x : ℕ) → x < n → value table x ≢ free_sector → ListsFree n free table → ListsFree n (free ++ x ∷ []) (set table x free_sector)
lists-push n free table x lx busy f =
    let below = value-below table x busy in
    record {
      once = distinct-push free x f.once (λ m. busy (f.sound x m).1);
      sound = λ i m. elim (Contains-push_cases free x i m) [
        | inl r ↦
            let s = f.sound i r in
            let ne : i ≢ x = λ e. busy (ap (value table) (sym e) ∙ s.1) in
            (s.0, value-set_other table x i free_sector ne ∙ s.1)
        | inr e ↦ (omega (arith, e, lx), ap (value (set table x free_sector)) (sym e) ∙ value-set table x free_sector below)
      ];
      whole = λ i lt is. elim (cases_eq i x) [
        | inl e ↦ subst (Contains (free ++ x ∷ [])) (sym e) (Contains-push free x)
        | inr ne ↦ Contains-append_left free (x ∷ []) i (f.whole i lt (sym (value-set_other table x i free_sector ne) ∙ is))
      ];
    }

-- a number in use gets another value
pub lists-link : (n : ℕ) (free table : List ℕ) (x w : ℕ) → value table x ≢ free_sector → w ≢ free_sector → ListsFree n free table → ListsFree n free (set table x w)
lists-link n free table x w was busy f = record {
  once = f.once;
  sound = λ i m.
      let s = f.sound i m in
      let ne : i ≢ x = λ e. was (ap (value table) (sym e) ∙ s.1) in
      (s.0, value-set_other table x i w ne ∙ s.1);
  whole = λ i lt is. elim (cases_eq i x) [
    | inl e ↦ absurd (busy (sym (value-set table x w (value-below table x was)) ∙ (ap (value (set table x w)) (sym e) ∙ is)))
    | inr ne ↦ f.whole i lt (sym (value-set_other table x i w ne) ∙ is)
  ];
}

-- numbers in use are appended
pub lists-grow : (free table words : List ℕ) → NoneFree words → ListsFree (length table) free table → ListsFree (length (table ++ words)) free (table ++ words)
lists-grow free table words busy f =
    let len = length-append table words in
    record {
      once = f.once;
      sound = λ i m. let s = f.sound i m in (omega (arith, s.0, len), value-left table words i s.0 ∙ s.1);
      whole = λ i lt is. elim (cases_lt i (length table)) [
        | inl less ↦ f.whole i less (sym (value-left table words i less) ∙ is)
        | inr ge ↦
            let k = i - length table in
            let at : i ≡ length table + k = omega (arith, ge) in
            absurd (busy k (omega (arith, lt, len, ge)) (sym (value-right table words k) ∙ (ap (value (table ++ words)) (sym at) ∙ is)))
      ];
    }

pub none-free : (table : List ℕ) → ListsFree (length table) [] table → NoneFree table
none-free table f i lt is = Contains-nil i (f.whole i lt is)

-- ---- the list is as long as there are free numbers

abbrev bit : ℕ → ℕ
bit y = cond (y == free_sector) 1 0

bit_yes : (y : ℕ) → y ≡ free_sector → bit y ≡ 1
bit_yes y e = rw e refl

bit_no : (y : ℕ) → y ≢ free_sector → bit y ≡ 0
bit_no y ne = ap (λ (b : Bool). cond {A = ℕ} b 1 0) (ne_eqb y free_sector ne)

pub count-cons : (y : ℕ) (table : List ℕ) → free_count (y ∷ table) ≡ bit y + free_count table
count-cons y table = sum_by-cons bit y table

pub count-most : (table : List ℕ) → free_count table ≤ length table
count-most [] = omega arith
count-most (y ∷ table) =
    let p = count-cons y table in
    let rest = count-most table in
    elim (cases_eq y free_sector) [
      | inl e ↦ let a = bit_yes y e in omega (arith, a, p, rest)
      | inr ne ↦ let a = bit_no y ne in omega (arith, a, p, rest)
    ]

pub count-set : (table : List ℕ) (x w : ℕ) → x < length table → value table x ≡ free_sector → w ≢ free_sector → suc (free_count (set table x w)) ≡ free_count table
count-set [] x w lt is ne = absurd (omega (arith, lt))
count-set (y ∷ table) zero w lt is ne =
    let a = bit_yes y is in let b = bit_no w ne in
    let p = count-cons y table in let q = count-cons w table in
    omega (arith, a, b, p, q)
count-set (y ∷ table) (suc x) w lt is ne =
    let rest = count-set table x w (omega (arith, lt)) is ne in
    let p = count-cons y table in let q = count-cons y (set table x w) in
    omega (arith, rest, p, q)

-- what is in use and stays in use is not counted
pub count-busy : (table : List ℕ) (x w : ℕ) → value table x ≢ free_sector → w ≢ free_sector → free_count (set table x w) ≡ free_count table
count-busy [] x w was is = absurd (was (value-past [] x (omega arith)))
count-busy (y ∷ table) zero w was is =
    let a = bit_no y was in let b = bit_no w is in
    let p = count-cons y table in let q = count-cons w table in
    omega (arith, a, b, p, q)
count-busy (y ∷ table) (suc x) w was is =
    let rest = count-busy table x w was is in
    let p = count-cons y table in let q = count-cons y (set table x w) in
    omega (arith, rest, p, q)

pub count-none : (table : List ℕ) → NoneFree table → free_count table ≡ 0
count-none [] none = refl
count-none (y ∷ table) none =
    let a = bit_no y (none 0 (omega arith)) in
    let rest = count-none table (λ i lt e. none (suc i) (omega (arith, lt)) e) in
    let p = count-cons y table in
    omega (arith, a, rest, p)

lists-drop : (n : ℕ) (x : ℕ) (free table : List ℕ) (w : ℕ) → x < length table → w ≢ free_sector → ListsFree n (x ∷ free) table → ListsFree n free (set table x w)
lists-drop n x free table w lx busy f =
    let out : Contains free x → ⊥ = λ m. distinct-apart (x ∷ []) free f.once x (Contains-here x []) m in
    record {
      once = distinct-right (x ∷ []) free f.once;
      sound = λ i m.
          let ne : i ≢ x = λ e. out (subst (Contains free) e m) in
          let s = f.sound i (Contains-there x free i m) in
          (s.0, value-set_other table x i w ne ∙ s.1);
      whole = λ i lt is. elim (cases_eq i x) [
        | inl e ↦ absurd (busy (sym (value-set table x w lx) ∙ (ap (value (set table x w)) (sym e) ∙ is)))
        | inr ne ↦ elim (Contains-cases x free i (f.whole i lt (sym (value-set_other table x i w ne) ∙ is))) [
          | inl e ↦ absurd (ne (sym e))
          | inr r ↦ r
        ]
      ];
    }

pub lists-count : (free table : List ℕ) → ListsFree (length table) free table → free_count table ≡ length free
lists-count [] table f = count-none table (none-free table f)
lists-count (x ∷ free) table f =
    let top = f.sound x (Contains-here x free) in
    let one : suc (free_count (set table x 0)) ≡ free_count table = count-set table x 0 top.0 top.1 (λ e. omega (arith, e)) in
    let less = lists-drop (length table) x free table 0 top.0 (λ e. omega (arith, e)) f in
    let rest = lists-count free (set table x 0) (subst (λ n. ListsFree n free (set table x 0)) (sym (length-set table x 0)) less) in
    omega (arith, one, rest)

pub count-zero : (table : List ℕ) → free_count table ≡ 0 → NoneFree table
count-zero [] none i lt e = omega (arith, lt)
count-zero (y ∷ table) none zero lt e = let a = bit_yes y e in let p = count-cons y table in omega (arith, a, p, none)
count-zero (y ∷ table) none (suc i) lt e = let p = count-cons y table in count-zero table (omega (arith, p, none)) i (omega (arith, lt)) e
