-- Mini sectors are given back.
use Rattle.std.proofs.Common.{◌≡◌, ◌≢◌, ℕ, zero, suc, ◌+◌, ◌-◌, ◌<◌, ◌≤◌, inl, inr, List, [], ◌∷◌, ◌++◌, length, set, take, drop, get_or, refl, sym, ◌∙◌, ap, subst, arith, length-set, length-append, append_assoc, append-nil, take-append-drop}
use Rattle.std.specs.Prelude.{Contains, nat_eq}
use Rattle.std.specs.List.{IsDistinct}
use Rattle.std.proofs.lemmas.List.{take_more, nil_from_length}
use Rattle.std.proofs.lemmas.List.Elements.{Contains-append_left, Contains-append_cases}
use Rattle.cfb_format.specs.Bytes.{end_of_chain, free_sector, max_regular_sector}
use Rattle.cfb_format.specs.Chain.{value, IsChain}
use Rattle.cfb_format.specs.Full.{free_count}
use Rattle.cfb_tables.specs.Tables.{wiped}
use Rattle.cfb_tables.proofs.Members.{value-past}
use Rattle.cfb_tables.proofs.ChainLemmas.{members-busy}
use Rattle.cfb_mini_table.proofs.CountLemmas.{bit_yes, bit_no}
use Rattle.cfb_tables.proofs.FreeLemmas.{count-busy, count-cons}
use Rattle.cfb_tables.proofs.AttachLemmas.{wiped-freed, wiped-push, wiped-busy, behind-busy, start-busy, cut-freed}
use Rattle.cfb_mini_table.specs.MiniTable.{trimmed, AreBusy, MiniGivesBack, ListsMiniFree, IsMini, EndsBusy}
use Rattle.cfb_mini_table.specs.Steps.{Freeing}
use Rattle.cfb_mini_table.proofs.EndLemmas.{trimmed-values, trimmed-busy, trimmed-shorter}
use Rattle.cfb_mini_table.proofs.MiniFreeLemmas.{mini-push, mini-link}
use Rattle.cfb_format.proofs.Members.{Contains-nil, Contains-one, distinct-left}
use Rattle.cfb_format.proofs.Walks.{value-below}

-- the members of a chain can be freed
pub chain-busy : (table : List ℕ) (start : ℕ) (list : List ℕ) → IsChain table start list → AreBusy table list
chain-busy table start list c = record { busy = λ i m. (members-busy table start list c i m).0; once = c.distinct }

-- one more is free
pub count-free : (table : List ℕ) (x : ℕ) → value table x ≢ free_sector → free_count (set table x free_sector) ≡ free_count table + 1
count-free [] x busy = absurd (busy (value-past [] x (omega arith)))
count-free (y ∷ table) zero busy =
    let a = bit_no y busy in let b = bit_yes free_sector refl in
    let p = count-cons y table in let q = count-cons free_sector table in
    omega (arith, a, b, p, q)
count-free (y ∷ table) (suc x) busy =
    let rest = count-free table x busy in
    let p = count-cons y table in let q = count-cons y (set table x free_sector) in
    omega (arith, rest, p, q)

pub freeing-none : (table free : List ℕ) → ListsMiniFree free table → Freeing table table free free []
freeing-none table free f = record { table_is = refl; free_is = sym (append-nil free); counted = omega arith; listed = f }

module _ (table list : List ℕ) (can : AreBusy table list) (i : ℕ) (lt : i < length list) where
  abbrev this : ℕ
  this = get_or list i 0

  abbrev done : List ℕ
  done = take i list

  split : (done ++ this ∷ []) ++ drop (i + 1) list ≡ list
  split = ap (λ (z : List ℕ). z ++ drop (i + 1) list) (sym (take_more list i 0 lt)) ∙ take-append-drop (i + 1) list

  -- the next one is still in use
  still-busy : value (wiped table done) this ≢ free_sector
  still-busy = wiped-busy table done this
      (λ j m. can.busy j (subst (λ z. Contains z j) split (Contains-append_left (done ++ this ∷ []) (drop (i + 1) list) j m)))
      (distinct-left (done ++ this ∷ []) (drop (i + 1) list) (subst (IsDistinct nat_eq) (sym split) can.once))

  module _ (now free queue : List ℕ) (f : Freeing table now free queue done) where
    pub next-busy : value now this ≢ free_sector
    next-busy = subst (λ z. value z this ≢ free_sector) (sym f.table_is) still-busy

    pub freeing-step : Freeing table (set now this free_sector) free (queue ++ this ∷ []) (take (i + 1) list)
    freeing-step =
        let more = take_more list i 0 lt in
        let count = count-free now this next-busy in
        let c = f.counted in
        let len : length (take (i + 1) list) ≡ length done + 1 = ap length more ∙ length-append done (this ∷ []) in
        record {
          table_is = ap (λ (z : List ℕ). set z this free_sector) f.table_is ∙ sym (wiped-push table done this) ∙ ap (wiped table) (sym more);
          free_is = ap (λ (z : List ℕ). z ++ this ∷ []) f.free_is ∙ append_assoc free done (this ∷ []) ∙ ap (λ (z : List ℕ). free ++ z) (sym more);
          counted = omega (arith, count, c, len);
          listed = mini-push queue now this next-busy f.listed;
        }

-- none is given back
pub gives-none : (ends old : List ℕ) → ((i : ℕ) → Contains ends i → value old i ≡ end_of_chain) → MiniGivesBack ends [] old old
gives-none ends old ended = record {
  ended = ended;
  free = λ i m. absurd (Contains-nil i m);
  only = λ i out. refl;
  shorter = omega arith;
  counted = omega arith;
  trimmed = λ some. absurd (omega (arith, some));
  stays_trimmed = λ busy. busy;
  none = λ e. refl;
}

-- some were freed, and the table was trimmed
pub freed-mini : (old list : List ℕ) (dropped : ℕ) → 0 < length list → AreBusy old list → free_count (trimmed (wiped old list)) + dropped ≡ free_count old + length list
    → length (trimmed (wiped old list)) + dropped ≡ length old → MiniGivesBack [] list old (trimmed (wiped old list))
freed-mini old list dropped some can count len =
    let w = wiped-freed list old (λ i m. value-below old i (can.busy i m)) in
    let same = w.same_length in
    let short = trimmed-shorter (wiped old list) in
    record {
      ended = λ i m. absurd (Contains-nil i m);
      free = λ i m. trimmed-values (wiped old list) i ∙ w.free i m;
      only = λ i out. trimmed-values (wiped old list) i ∙ w.only i out;
      shorter = omega (arith, same, short);
      counted = omega (arith, count, len);
      trimmed = λ _. trimmed-busy (wiped old list);
      stays_trimmed = λ _. trimmed-busy (wiped old list);
      none = λ e. absurd (omega (arith, e, some));
    }

-- none is behind the member at which a chain ends
pub cut-none : (old list : List ℕ) (x : ℕ) → IsChain old (value old x) list → length list ≡ 0 → MiniGivesBack (x ∷ []) list old old
cut-none old list x c e =
    let empty : list ≡ [] = nil_from_length list e in
    let ended : value old x ≡ end_of_chain = (subst (IsChain old (value old x)) empty c).follows in
    subst (λ (z : List ℕ). MiniGivesBack (x ∷ []) z old old) (sym empty) (gives-none (x ∷ []) old (λ i n. ap (value old) (sym (Contains-one x i n)) ∙ ended))

-- what stands behind a member in its chain can be freed once the member is the end
pub behind-can : (table list : List ℕ) (x : ℕ) → x < length table → x ≤ max_regular_sector → IsChain table (value table x) list → AreBusy (set table x end_of_chain) list
behind-can table list x lt regular c = record { busy = behind-busy table list x lt regular c; once = c.distinct }

-- so a chain was cut behind x
pub cut-mini : (old list : List ℕ) (x dropped : ℕ) → 0 < length list → x < length old → x ≤ max_regular_sector → IsChain old (value old x) list
    → free_count (trimmed (wiped (set old x end_of_chain) list)) + dropped ≡ free_count old + length list
    → length (trimmed (wiped (set old x end_of_chain) list)) + dropped ≡ length old → MiniGivesBack (x ∷ []) list old (trimmed (wiped (set old x end_of_chain) list))
cut-mini old list x dropped some lt regular c count len =
    let next = set old x end_of_chain in
    let w = cut-freed old list x lt regular c in
    let same = w.same_length in
    let short = trimmed-shorter (wiped next list) in
    record {
      ended = λ i m. trimmed-values (wiped next list) i ∙ w.ended i m;
      free = λ i m. trimmed-values (wiped next list) i ∙ w.free i m;
      only = λ i out. trimmed-values (wiped next list) i ∙ w.only i out;
      shorter = omega (arith, same, short);
      counted = omega (arith, count, len);
      trimmed = λ _. trimmed-busy (wiped next list);
      stays_trimmed = λ _. trimmed-busy (wiped next list);
      none = λ e. absurd (omega (arith, e, some));
    }

pub freed-is : (old list new : List ℕ) (dropped : ℕ) → 0 < length list → AreBusy old list → new ≡ trimmed (wiped old list)
    → free_count new + dropped ≡ free_count old + length list → length new + dropped ≡ length old → MiniGivesBack [] list old new
freed-is old list new dropped some can is count len =
    let count' = ap free_count is in
    let len' = ap (λ (z : List ℕ). length z) is in
    subst (MiniGivesBack [] list old) (sym is) (freed-mini old list dropped some can (omega (arith, count, count')) (omega (arith, len, len')))

-- what is always so of the table in memory holds again
pub mini-freed : (limit : ℕ) (old list new free queue : List ℕ) (unused dropped places : ℕ) → length old ≤ limit → limit ≤ max_regular_sector → AreBusy old list
    → new ≡ trimmed (wiped old list) → ListsMiniFree queue new → queue ≡ free ++ list → free_count new + dropped ≡ free_count old + length list → unused ≡ free_count old
    → length old ≤ places → ((i : ℕ) → Contains free i → i < places) → IsMini limit new queue (unused + length list - dropped) places
mini-freed limit old list new free queue unused dropped places short limited can is listed grown count was within below =
    let w = wiped-freed list old (λ i m. value-below old i (can.busy i m)) in
    let same = w.same_length in
    let less = trimmed-shorter (wiped old list) in
    let len = ap (λ (z : List ℕ). length z) is in
    record {
      listed = listed;
      next = inl (subst EndsBusy (sym is) (trimmed-busy (wiped old list)));
      counted = omega (arith, count, was);
      short = omega (arith, len, less, same, short);
      limited = limited;
      table_places = omega (arith, len, less, same, within);
      free_places = λ i m. elim (Contains-append_cases free list i (subst (λ (z : List ℕ). Contains z i) grown m)) [
        | inl l ↦ below i l
        | inr r ↦ let b = value-below old i (can.busy i r) in omega (arith, b, within)
      ];
    }

-- and where a chain was cut
module _ (limit : ℕ) (old list free : List ℕ) (x unused places : ℕ) (m : IsMini limit old free unused places) (lt : x < length old)
    (c : IsChain old (value old x) list) where
  cut-regular : x ≤ max_regular_sector
  cut-regular = let s = m.short in let l = m.limited in omega (arith, s, l, lt)

  cut-was-busy : value old x ≢ free_sector
  cut-was-busy = start-busy old (value old x) list c

  pub cut-listed : ListsMiniFree free (set old x end_of_chain)
  cut-listed = mini-link free old x end_of_chain cut-was-busy (λ e. omega (arith, e)) m.listed

  pub cut-count : free_count (set old x end_of_chain) ≡ free_count old
  cut-count = count-busy old x end_of_chain cut-was-busy (λ e. omega (arith, e))

  pub cut-can : AreBusy (set old x end_of_chain) list
  cut-can = behind-can old list x lt cut-regular c

  pub cut-is : (new : List ℕ) (dropped : ℕ) → 0 < length list → new ≡ trimmed (wiped (set old x end_of_chain) list)
      → free_count new + dropped ≡ free_count (set old x end_of_chain) + length list → length new + dropped ≡ length old → MiniGivesBack (x ∷ []) list old new
  cut-is new dropped some is count len =
      let same = cut-count in
      let count' = ap free_count is in
      let len' = ap (λ (z : List ℕ). length z) is in
      subst (MiniGivesBack (x ∷ []) list old) (sym is)
      (cut-mini old list x dropped some lt cut-regular c (omega (arith, count, count', same)) (omega (arith, len, len')))

  pub cut-again : (new queue : List ℕ) (dropped : ℕ) → new ≡ trimmed (wiped (set old x end_of_chain) list) → ListsMiniFree queue new → queue ≡ free ++ list
      → free_count new + dropped ≡ free_count (set old x end_of_chain) + length list → IsMini limit new queue (unused + length list - dropped) places
  cut-again new queue dropped is listed grown count =
      let len = length-set old x end_of_chain in
      let same : free_count (set old x end_of_chain) ≡ free_count old = cut-count in
      let s = m.short in
      let p = m.table_places in
      mini-freed limit (set old x end_of_chain) list new free queue unused dropped places (omega (arith, len, s)) m.limited cut-can is listed grown count (m.counted ∙ sym same)
      (omega (arith, len, p)) m.free_places
