-- The list of free numbers, as the table changes.
use Rattle.std.proofs.Common.{◌≡◌, ◌≢◌, ℕ, ◌+◌, ◌-◌, ◌<◌, ◌≤◌, inl, inr, List, [], ◌∷◌, ◌++◌, length, set, sym, ◌∙◌, ap, subst, arith, length-set, length-append}
use Rattle.std.specs.Prelude.{Contains}
use Rattle.std.proofs.lemmas.List.Elements.{Contains-append_left, Contains-append_cases, Contains-push, Contains-push_cases}
use Rattle.std.proofs.lemmas.Bool.{cases_eq, cases_lt, eqb-true}
use Rattle.cfb_format.specs.Bytes.{free_sector}
use Rattle.cfb_format.specs.Chain.{value}
use Rattle.cfb_tables.specs.Changes.{ListsFree, NoneFree}
use Rattle.cfb_tables.proofs.Members.{value-set, value-set_other, value-left, value-right}
use Rattle.std.proofs.lemmas.Map.Steps.{length-le_from_distinct_below}
use Rattle.std.proofs.lemmas.Map.Views.{Contains-from_any}
use Rattle.cfb_tables.proofs.ListedLemmas.{last_pushed}
use Rattle.cfb_tables.specs.Listed.{last_or_end}
use Rattle.cfb_mini_table.specs.MiniTable.{ListsMiniFree, SameValues, EndsBusy, TakesEndFirst, AreBusy}
use Rattle.cfb_format.proofs.Members.{Contains-nil, Contains-here, none_distinct, distinct-left, distinct-apart, distinct-join, distinct-push}
use Rattle.cfb_format.proofs.Walks.{value-below}

-- the free numbers below the end, where there are none past it
pub mini-listed : (free table : List ℕ) → ListsFree (length table) free table → ListsMiniFree free table
mini-listed free table f = record { once = f.once; sound = λ i m. (f.sound i m).1; whole = f.whole }

-- a number past the end is skipped
pub mini-skip : (free table : List ℕ) (x : ℕ) → length table ≤ x → ListsMiniFree (free ++ x ∷ []) table → ListsMiniFree free table
mini-skip free table x past f = record {
  once = distinct-left free (x ∷ []) f.once;
  sound = λ i m. f.sound i (Contains-append_left free (x ∷ []) i m);
  whole = λ i lt is. elim (Contains-push_cases free x i (f.whole i lt is)) [ inl r ↦ r | inr e ↦ absurd (omega (arith, e, lt, past)) ];
}

-- a free number is taken
pub mini-pop : (free table : List ℕ) (x w : ℕ) → x < length table → w ≢ free_sector → ListsMiniFree (free ++ x ∷ []) table → ListsMiniFree free (set table x w)
mini-pop free table x w lx busy f =
    let out : Contains free x → ⊥ = λ m. distinct-apart free (x ∷ []) f.once x m (Contains-here x []) in
    let same = length-set table x w in
    record {
      once = distinct-left free (x ∷ []) f.once;
      sound = λ i m.
          let ne : i ≢ x = λ e. out (subst (Contains free) e m) in
          value-set_other table x i w ne ∙ f.sound i (Contains-append_left free (x ∷ []) i m);
      whole = λ i lt is. elim (cases_eq i x) [
        | inl e ↦ absurd (busy (sym (value-set table x w lx) ∙ (ap (value (set table x w)) (sym e) ∙ is)))
        | inr ne ↦ elim (Contains-push_cases free x i (f.whole i (omega (arith, lt, same)) (sym (value-set_other table x i w ne) ∙ is))) [
          | inl r ↦ r
          | inr e ↦ absurd (ne (sym e))
        ]
      ];
    }

-- a number in use gets another value
pub mini-link : (free table : List ℕ) (x w : ℕ) → value table x ≢ free_sector → w ≢ free_sector → ListsMiniFree free table → ListsMiniFree free (set table x w)
mini-link free table x w was busy f =
    let same = length-set table x w in
    record {
      once = f.once;
      sound = λ i m.
          let s = f.sound i m in
          let ne : i ≢ x = λ e. was (ap (value table) (sym e) ∙ s) in
          value-set_other table x i w ne ∙ s;
      whole = λ i lt is. elim (cases_eq i x) [
        | inl e ↦ absurd (busy (sym (value-set table x w (value-below table x was)) ∙ (ap (value (set table x w)) (sym e) ∙ is)))
        | inr ne ↦ f.whole i (omega (arith, lt, same)) (sym (value-set_other table x i w ne) ∙ is)
      ];
    }

-- a number is freed
pub mini-push : (free table : List ℕ) (x : ℕ) → value table x ≢ free_sector → ListsMiniFree free table → ListsMiniFree (free ++ x ∷ []) (set table x free_sector)
mini-push free table x busy f =
    let below = value-below table x busy in
    let same = length-set table x free_sector in
    record {
      once = distinct-push free x f.once (λ m. busy (f.sound x m));
      sound = λ i m. elim (Contains-push_cases free x i m) [
        | inl r ↦
            let s = f.sound i r in
            let ne : i ≢ x = λ e. busy (ap (value table) (sym e) ∙ s) in
            value-set_other table x i free_sector ne ∙ s
        | inr e ↦ ap (value (set table x free_sector)) (sym e) ∙ value-set table x free_sector below
      ];
      whole = λ i lt is. elim (cases_eq i x) [
        | inl e ↦ subst (Contains (free ++ x ∷ [])) (sym e) (Contains-push free x)
        | inr ne ↦ Contains-append_left free (x ∷ []) i (f.whole i (omega (arith, lt, same)) (sym (value-set_other table x i free_sector ne) ∙ is))
      ];
    }

-- free entries at the end are no longer kept
pub mini-same : (free old new : List ℕ) → SameValues old new → length new ≤ length old → ListsMiniFree free old → ListsMiniFree free new
mini-same free old new same shorter f = record {
  once = f.once;
  sound = λ i m. same i ∙ f.sound i m;
  whole = λ i lt is. f.whole i (omega (arith, lt, shorter)) (sym (same i) ∙ is);
}

pub mini-none : (table : List ℕ) → ListsMiniFree [] table → NoneFree table
mini-none table f i lt is = Contains-nil i (f.whole i lt is)

-- an entry in use is appended, where none is free
pub mini-grow : (table : List ℕ) (w : ℕ) → w ≢ free_sector → ListsMiniFree [] table → ListsMiniFree [] (table ++ w ∷ [])
mini-grow table w busy f =
    let len = length-append table (w ∷ []) in
    record {
      once = none_distinct;
      sound = λ i m. absurd (Contains-nil i m);
      whole = λ i lt is. elim (cases_lt i (length table)) [
        | inl less ↦ f.whole i less (sym (value-left table (w ∷ []) i less) ∙ is)
        | inr ge ↦
            let at : i ≡ length table + 0 = omega (arith, ge, lt, len) in
            absurd (busy (sym (value-right table (w ∷ []) 0) ∙ (ap (value (table ++ w ∷ [])) (sym at) ∙ is)))
      ];
    }

-- ---- which number is taken next

same-pushed : (front free : List ℕ) (y x : ℕ) → free ++ x ∷ [] ≡ front ++ y ∷ [] → x ≡ y
same-pushed front free y x e = sym (last_pushed free x) ∙ ap last_or_end e ∙ last_pushed front y

-- a number past the end is skipped only where the table ends at an entry in use
pub skip-busy : (free table : List ℕ) (x : ℕ) → length table ≤ x → TakesEndFirst (free ++ x ∷ []) table → EndsBusy table
skip-busy free table x past next some e = elim next [
  | inl busy ↦ busy some e
  | inr q ↦ let is = same-pushed q.0 free (length table - 1) x q.1 in omega (arith, is, past, some)
]

-- what is taken leaves no free entry at the end
pub pop-busy : (free table : List ℕ) (x w : ℕ) → x < length table → w ≢ free_sector → TakesEndFirst (free ++ x ∷ []) table → EndsBusy (set table x w)
pop-busy free table x w lt ne next some e =
    let new = set table x w in
    let same = length-set table x w in
    elim (cases_eq (length new - 1) x) [
      | inl at ↦ ne (sym (value-set table x w lt) ∙ (ap (value new) (sym at) ∙ e))
      | inr other ↦
          let at : length new - 1 ≡ length table - 1 = omega (arith, same) in
          let was : value table (length table - 1) ≡ free_sector = ap (value table) (sym at) ∙ (sym (value-set_other table x (length new - 1) w other) ∙ e) in
          elim next [
            | inl busy ↦ busy (omega (arith, lt)) was
            | inr q ↦ let is = same-pushed q.0 free (length table - 1) x q.1 in other (at ∙ sym is)
          ]
    ]

-- ---- room in the list of free numbers

-- no number stands in it twice, nor one in use, and all are below the number of places
pub free-room : (free table list : List ℕ) (places : ℕ) → ListsMiniFree free table → AreBusy table list → length table ≤ places
    → ((i : ℕ) → Contains free i → i < places) → length free + length list ≤ places
free-room free table list places f can within below =
    let once = distinct-join free list f.once can.once (λ i m n. can.busy i n (f.sound i m)) in
    let len = length-append free list in
    let few = length-le_from_distinct_below (free ++ list) places once
    (λ q h. elim (Contains-append_cases free list q (Contains-from_any (λ x y. eqb-true x y) q (free ++ list) h)) [
      | inl l ↦ below q l
      | inr r ↦ let b = value-below table q (can.busy q r) in omega (arith, b, within)
    ]) in
    omega (arith, few, len)
