-- Taking mini sectors, one after another.
use Rattle.std.proofs.Common.{◌≡◌, ℕ, zero, suc, ◌+◌, ◌-◌, ◌<◌, inl, inr, List, [], ◌∷◌, ◌++◌, length, set, refl, sym, ◌∙◌, ap, subst, arith, length-set, length-append}
use Rattle.std.specs.Prelude.{Contains}
use Rattle.std.proofs.lemmas.Bool.{cases_eq, cases_lt}
use Rattle.std.proofs.lemmas.List.Elements.{Contains-append_left, Contains-append_right, Contains-push_cases}
use Rattle.std.proofs.lemmas.List.Sums.{sum_by-append}
use Rattle.cfb_format.specs.Bytes.{end_of_chain, free_sector}
use Rattle.cfb_format.specs.Chain.{value}
use Rattle.cfb_format.specs.Full.{free_count}
use Rattle.cfb_tables.specs.Changes.{NoneFree}
use Rattle.cfb_tables.proofs.Members.{value-past, value-set, value-set_other, value-left, value-right}
use Rattle.cfb_tables.proofs.FreeLemmas.{count-set, count-none, count-zero}
use Rattle.cfb_mini_table.specs.MiniTable.{TakesMini, EndsBusy}
use Rattle.cfb_mini_table.specs.Steps.{TakesOne, Taking}
use Rattle.cfb_format.proofs.Members.{Contains-nil, Contains-one, none_distinct, distinct-push}

-- a free one
pub one-set : (old : List ℕ) (x : ℕ) → x < length old → value old x ≡ free_sector → EndsBusy (set old x end_of_chain) → TakesOne old (set old x end_of_chain) x
one-set old x lt is busy =
    let same = length-set old x end_of_chain in
    let count = count-set old x end_of_chain lt is (λ e. omega (arith, e)) in
    record {
      fresh = is;
      ended = value-set old x end_of_chain lt;
      below = omega (arith, lt, same);
      only = λ i out. value-set_other old x i end_of_chain (λ e. out (0, omega arith, sym e));
      left = omega (arith, count);
      len = omega (arith, same, count);
      trimmed = busy;
    }

-- one past the end
pub one-push : (old : List ℕ) → NoneFree old → TakesOne old (old ++ end_of_chain ∷ []) (length old)
one-push old none =
    let new = old ++ end_of_chain ∷ [] in
    let len = length-append old (end_of_chain ∷ []) in
    let zero = count-none old none in
    let at : value new (length old) ≡ end_of_chain = ap (value new) (let z : length old ≡ length old + 0 = omega arith in z) ∙ value-right old (end_of_chain ∷ []) 0 in
    let more : free_count new ≡ free_count old + free_count (end_of_chain ∷ []) = sum_by-append _ old (end_of_chain ∷ []) in
    let one : free_count (end_of_chain ∷ []) ≡ 0 = count-none (end_of_chain ∷ []) busy_word in
    record {
      fresh = value-past old (length old) (omega arith);
      ended = at;
      below = omega (arith, len);
      only = λ i out. elim (cases_lt i (length old)) [
        | inl lt ↦ value-left old (end_of_chain ∷ []) i lt
        | inr ge ↦ elim (cases_eq i (length old)) [
          | inl e ↦ absurd (out (0, omega arith, sym e))
          | inr ne ↦ value-past new i (omega (arith, ge, ne, len)) ∙ sym (value-past old i ge)
        ]
      ];
      left = omega (arith, more, one, zero);
      len = omega (arith, len, zero);
      trimmed = λ some e.
          let last : length new - 1 ≡ length old = omega (arith, len) in
          let v : value new (length old) ≡ free_sector = ap (value new) (sym last) ∙ e in
          omega (arith, at, v);
    }
  where
    busy_word : NoneFree (end_of_chain ∷ [])
    busy_word zero lt e = omega (arith, e)
    busy_word (suc i) lt e = omega (arith, lt)

-- ---- several

pub taking-none : (limit : ℕ) (table : List ℕ) → Taking limit table table []
taking-none limit table = record {
  once = none_distinct;
  fresh = λ i m. absurd (Contains-nil i m);
  below = λ i m. absurd (Contains-nil i m);
  ends = λ i m. absurd (Contains-nil i m);
  only = λ i out. refl;
  left = omega arith;
  len = omega arith;
  limited = λ lt. omega (arith, lt);
  trimmed = λ some. absurd (omega (arith, some));
  none = λ e. refl;
}

module _ (limit : ℕ) (old mid new more : List ℕ) (x : ℕ) (so_far : Taking limit old mid more) (one : TakesOne mid new x)
    (room : free_count mid ≡ 0 → length mid < limit) where
  not_taken : Contains more x → ⊥
  not_taken m = let e = so_far.ends x m in let f = one.fresh in omega (arith, e, f)

  pub taking-more : Taking limit old new (more ++ x ∷ [])
  taking-more =
      let len = length-append more (x ∷ []) in
      let l = so_far.left in
      let l2 = one.left in
      let n = so_far.len in
      let n2 = one.len in
      let count : free_count new ≡ free_count old - length (more ++ x ∷ []) = omega (arith, len, l, l2) in
      let long : length new ≡ length old + (length (more ++ x ∷ []) - free_count old) = omega (arith, len, l, n, n2) in
      record {
        once = distinct-push more x so_far.once not_taken;
        fresh = λ i m. elim (Contains-push_cases more x i m) [
          | inl r ↦ so_far.fresh i r
          | inr e ↦ sym (so_far.only i (λ r. not_taken (subst (Contains more) (sym e) r))) ∙ (ap (value mid) (sym e) ∙ one.fresh)
        ];
        below = λ i m. elim (Contains-push_cases more x i m) [
          | inl r ↦ let b = so_far.below i r in omega (arith, b, n2)
          | inr e ↦ let b = one.below in omega (arith, b, e)
        ];
        ends = λ i m. elim (Contains-push_cases more x i m) [
          | inl r ↦ one.only i (λ c. not_taken (subst (Contains more) (sym (Contains-one x i c)) r)) ∙ so_far.ends i r
          | inr e ↦ ap (value new) (sym e) ∙ one.ended
        ];
        only = λ i out.
            one.only i (λ c. out (Contains-append_right more (x ∷ []) i c))
            ∙ so_far.only i (λ r. out (Contains-append_left more (x ∷ []) i r));
        left = count;
        len = long;
        limited = λ lt. elim (cases_lt (length mid) (length new)) [
          | inl grew ↦ let r = room (omega (arith, grew, n2)) in omega (arith, r, n2)
          | inr not ↦ let s = so_far.limited (omega (arith, lt, not)) in omega (arith, s, not)
        ];
        trimmed = λ some. one.trimmed;
        none = λ e. absurd (omega (arith, e, len));
      }

-- where the table grew none is free
pub none-left : (old new more : List ℕ) → free_count new ≡ free_count old - length more → length new ≡ length old + (length more - free_count old)
    → length old < length new → NoneFree new
none-left old new more left len lt = count-zero new (omega (arith, left, len, lt))

-- a table that ended at an entry in use does so again
pub taking-stays : (limit : ℕ) (old now more : List ℕ) → Taking limit old now more → EndsBusy old → EndsBusy now
taking-stays limit old now more t busy = elim (cases_lt 0 (length more)) [
  | inl some ↦ t.trimmed some
  | inr few ↦ subst EndsBusy (sym (t.none (omega (arith, few)))) busy
]

-- they are a taking for no chain
pub taking-takes : (limit : ℕ) (old now more : List ℕ) → Taking limit old now more → TakesMini limit old now [] more
taking-takes limit old now more t = record {
  once = t.once;
  fresh = t.fresh;
  below = t.below;
  ended = λ i m. absurd (Contains-nil i m);
  busy = λ i m. inr (t.ends i m);
  only = t.only;
  left = t.left;
  len = t.len;
  none_free = none-left old now more t.left t.len;
  limited = t.limited;
  trimmed = t.trimmed;
  stays_trimmed = taking-stays limit old now more t;
  none = t.none;
}
