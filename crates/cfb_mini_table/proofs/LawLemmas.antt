-- The laws about the MiniFAT in memory.
use Rattle.std.proofs.Common.{◌≡◌, ◌<◌, ◌≤◌, ◌+◌, ◌-◌, inl, inr, min, ℕ, List, [], ◌∷◌, ◌++◌, length, take, sym, ◌∙◌, ap, subst, arith, append_assoc, get_or-take, length-take}
use Rattle.std.specs.Prelude.{Contains, slice_index, ◌↔◌}
use Rattle.std.specs.List.{suffix_len}
use Rattle.std.proofs.lemmas.Bool.{cases_lt, eqb-true}
use Rattle.std.proofs.lemmas.Grind.{same_number_lists}
use Rattle.std.proofs.lemmas.List.Elements.{Contains-append_left, Contains-append_cases}
use Rattle.cfb_format.specs.Bytes.{free_sector}
use Rattle.cfb_format.specs.Chain.{value, IsChain}
use Rattle.cfb_format.specs.Full.{free_count}
use Rattle.cfb_tables.specs.Changes.{AreDisjoint}
use Rattle.cfb_tables.specs.Owners.{Takes, Frees}
use Rattle.cfb_tables.proofs.ChainLemmas.{members-busy, chain-stays, other-chains-stay, chain-turn, chain-rest}
use Rattle.cfb_tables.specs.Listed.{last_or_end, ends_of}
use Rattle.cfb_tables.specs.Tables.{first_or_end}
use Rattle.cfb_tables.proofs.ListedLemmas.{end_chain, last_split, what_is_left-ends}
use Rattle.cfb_mini_table.specs.MiniTable.{MiniTableState, trimmed, EndsBusy, IsTooFewMini, IsPreparedMini, TakesMini, MiniGivesBack}
use Rattle.cfb_mini_table.specs.Laws.{IsTrimmed, AgreesWithWords}
use Rattle.cfb_mini_table.proofs.EndLemmas.{is_free, ends_at, trimmed-values, trimmed-busy, trimmed-shorter}
use Rattle.cfb_format.proofs.Members.{Contains-here, distinct-apart}
use Rattle.cfb_format.proofs.Walks.{value-at, value-below, chain_of}

pub is-trimmed : (table : List ℕ) → IsTrimmed table (trimmed table)
is-trimmed table = record { values = trimmed-values table; busy = trimmed-busy table; shorter = trimmed-shorter table }

module _ (words table : List ℕ) (h : AgreesWithWords table words) (busy : EndsBusy table) where
  -- where the words end that are not free
  abbrev end : ℕ
  end = length words - suffix_len is_free words

  reaches : length table ≤ end
  reaches = elim (cases_lt end (length table)) [
    | inr le ↦ le
    | inl lt ↦
        let last : length table - 1 < length table = omega (arith, lt) in
        let free = eqb-true (slice_index words (length table - 1)) free_sector ((ends_at words).rest (length table - 1) (omega (arith, lt)) (omega (arith, last, h.covered))) in
        absurd (busy (omega (arith, lt)) (sym (h.same (length table - 1) last) ∙ free))
  ]

  pub held-read : (n : ℕ) → n ≡ length table → table ≡ take n (trimmed words)
  held-read n is =
      let r = reaches in
      let short : end ≤ length words = omega arith in
      let cut : length (take end words) ≡ end = length-take end words ∙ (let m : min end (length words) ≡ end = omega (arith, short) in m) in
      let len : length (take n (take end words)) ≡ length table = length-take n (take end words) ∙ (let m : min n (length (take end words)) ≡ length table = omega (arith, cut, r, is) in m) in
      same_number_lists table (take n (take end words)) (sym len)
      (λ m lt. sym (get_or-take n (take end words) m 0 (omega (arith, lt, is)) ∙ get_or-take end words m 0 (omega (arith, lt, r)) ∙ h.same m lt ∙ value-at table m lt))

pub full-of-mini : (limit : ℕ) (table : List ℕ) → length table ≤ limit → IsTooFewMini limit table 1 ↔ ((free_count table ≡ 0) × (limit ≤ length table))
full-of-mini limit table short = ((λ few. (omega (arith, few), omega (arith, few))), (λ both. omega (arith, both.0, both.1)))

pub room-in-turn : (limit : ℕ) (old new touched more : List ℕ) (rest : ℕ) → TakesMini limit old new touched more
    → IsTooFewMini limit new rest ↔ IsTooFewMini limit old (length more + rest)
room-in-turn limit old new touched more rest t =
    let len = t.len in
    let left = t.left in
    ((λ few. omega (arith, few, len, left)), (λ few. omega (arith, few, len, left)))

pub prepared-in-turn : (old new : MiniTableState) (touched more : List ℕ) (rest : ℕ) → TakesMini old.limit old.minifat new.minifat touched more
    → new ≡ record old { minifat = new.minifat } → IsPreparedMini old (length more + rest) → IsPreparedMini new rest
prepared-in-turn old new touched more rest t same p =
    let len = t.len in
    let left = t.left in
    let held = p.held in
    let enough = p.enough in
    let room = ap (λ (s : MiniTableState). s.room) same in
    let limit = ap (λ (s : MiniTableState). s.limit) same in
    record { held = omega (arith, held, len, left, room); enough = omega (arith, enough, len, left, limit) }

pub room-given-back : (limit : ℕ) (ends gone old new : List ℕ) (count : ℕ) → MiniGivesBack ends gone old new → length old ≤ limit
    → IsTooFewMini limit new count ↔ IsTooFewMini limit old (count - length gone)
room-given-back limit ends gone old new count f short =
    let counted = f.counted in
    let shorter = f.shorter in
    ((λ few. omega (arith, few, counted, shorter, short)), (λ few. omega (arith, few, counted, shorter, short)))

pub prepared-given-back : (old new : MiniTableState) (ends gone : List ℕ) (count : ℕ) → MiniGivesBack ends gone old.minifat new.minifat
    → new ≡ record old { minifat = new.minifat } → IsPreparedMini old (count - length gone) → IsPreparedMini new count
prepared-given-back old new ends gone count f same p =
    let counted = f.counted in
    let shorter = f.shorter in
    let held = p.held in
    let enough = p.enough in
    let room = ap (λ (s : MiniTableState). s.room) same in
    let limit = ap (λ (s : MiniTableState). s.limit) same in
    record { held = omega (arith, held, counted, shorter, room); enough = omega (arith, enough, counted, shorter, limit) }

-- ---- chains

pub taking-leaves : (limit : ℕ) (old new touched more : List ℕ) (start : ℕ) (list : List ℕ) → TakesMini limit old new touched more → AreDisjoint list touched
    → IsChain old start list → IsChain new start list
taking-leaves limit old new touched more start list t apart c =
    chain-stays old new start list (λ i m. t.only i (λ n. elim (Contains-append_cases touched more i n) [
      | inl l ↦ apart i m l
      | inr r ↦ (members-busy old start list c i m).0 (t.fresh i r)
    ])) c

pub taking-extends : (limit : ℕ) (old new : List ℕ) (last : ℕ) (more : List ℕ) (start : ℕ) (front : List ℕ) → TakesMini limit old new (last ∷ []) more
    → IsChain new last (last ∷ more) → IsChain old start (front ++ last ∷ []) → IsChain new start (front ++ last ∷ more)
taking-extends limit old new last more start front t chain was =
    let stays : (i : ℕ) → Contains front i → value new i ≡ value old i = λ i m. t.only i (λ n. elim (Contains-append_cases (last ∷ []) more i n) [
      | inl l ↦ distinct-apart front (last ∷ []) was.distinct i m l
      | inr r ↦ (members-busy old start (front ++ last ∷ []) was i (Contains-append_left front (last ∷ []) i m)).0 (t.fresh i r)
    ]) in
    let below = (members-busy new last (last ∷ more) chain last (Contains-here last more)).1 in
    chain-turn old new start front last [] more stays below was (chain-rest new last [] last more chain)

pub freeing-leaves : (left gone old new : List ℕ) (start : ℕ) (list : List ℕ) → MiniGivesBack left gone old new → AreDisjoint list (left ++ gone)
    → IsChain old start list → IsChain new start list
freeing-leaves left gone old new start list f apart c = other-chains-stay (left ++ gone) old new start list f.only apart c

pub cutting-shortens : (old new : List ℕ) (last : ℕ) (gone : List ℕ) (start : ℕ) (front : List ℕ) → MiniGivesBack (last ∷ []) gone old new
    → IsChain old start (front ++ last ∷ gone) → IsChain new start (front ++ last ∷ [])
cutting-shortens old new last gone start front f was =
    let ended = f.ended last (Contains-here last []) in
    let below = value-below new last (λ e. omega (arith, e, ended)) in
    let stays : (i : ℕ) → Contains front i → value new i ≡ value old i = λ i m. f.only i (λ n. distinct-apart front (last ∷ gone) was.distinct i m n) in
    chain-turn old new start front last gone [] stays below was (chain_of new (value new last) [] ended)

pub left-is-chain : (old new left gone : List ℕ) → IsChain old (first_or_end (left ++ gone)) (left ++ gone) → MiniGivesBack (ends_of left) gone old new
    → IsChain new (first_or_end left) left
left-is-chain old new [] gone c f = end_chain new
left-is-chain old new (x ∷ rest) gone c f =
    let left = x ∷ rest in
    let last = last_or_end left in
    let front = take (length left - 1) left in
    let split : left ≡ front ++ last ∷ [] = last_split left (omega arith) in
    let whole : left ++ gone ≡ front ++ last ∷ gone = ap (λ (z : List ℕ). z ++ gone) split ∙ append_assoc front (last ∷ []) gone in
    let ends = (what_is_left-ends old left gone (omega arith) c).0 in
    let cut : IsChain new x (front ++ last ∷ []) =
    cutting-shortens old new last gone x front (subst (λ (z : List ℕ). MiniGivesBack z gone old new) ends f) (subst (IsChain old x) whole c) in
    subst (IsChain new x) (sym split) cut

-- ---- owners

pub mini-taking : (limit : ℕ) (old new touched more : List ℕ) → TakesMini limit old new touched more → Takes old new touched more
mini-taking limit old new touched more t = record {
  only = t.only;
  once = t.once;
  fresh = t.fresh;
  busy = λ i m e. elim (t.busy i m) [ inl le ↦ omega (arith, le, e) | inr end ↦ omega (arith, end, e) ];
}

pub mini-freeing : (left gone old new : List ℕ) → MiniGivesBack left gone old new → Frees old new left gone
mini-freeing left gone old new f = record {
  only = f.only;
  free = f.free;
  busy = λ i m e. let end = f.ended i m in omega (arith, end, e);
}
