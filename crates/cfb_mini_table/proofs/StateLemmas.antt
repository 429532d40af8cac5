-- What is always so of the table in memory, and the lists that a caller gives.
use Rattle.std.proofs.Common.{◌≡◌, ℕ, ◌+◌, ◌-◌, ◌<◌, ◌≤◌, min, List, [], ◌∷◌, ◌++◌, length, take, drop, get_or, sym, ◌∙◌, ap, subst, arith, append_assoc, get_or-take, length-take, take-append-drop}
use Rattle.std.specs.Prelude.{Contains, slice_index}
use Rattle.std.proofs.lemmas.List.{get_or_default}
use Rattle.cfb_format.specs.Bytes.{end_of_chain}
use Rattle.cfb_format.specs.Chain.{value, IsChain}
use Rattle.cfb_format.specs.Full.{free_count}
use Rattle.cfb_tables.specs.Listed.{last_or_end, ends_of}
use Rattle.cfb_tables.specs.Tables.{first_or_end}
use Rattle.cfb_tables.proofs.ListedLemmas.{last_is, last_split, what_is_left-ends}
use Rattle.cfb_mini_table.specs.MiniTable.{IsMini, TakesMini, ListsMiniFree, TakesEndFirst}
use Rattle.cfb_mini_table.proofs.LawLemmas.{taking-extends}

-- memory is reserved
pub mini-reserved : (limit : ℕ) (minifat free : List ℕ) (unused places more : ℕ) → IsMini limit minifat free unused places → places ≤ more → IsMini limit minifat free unused more
mini-reserved limit minifat free unused places more m le = record {
  listed = m.listed;
  next = m.next;
  counted = m.counted;
  short = m.short;
  limited = m.limited;
  table_places = let t = m.table_places in omega (arith, t, le);
  free_places = λ i n. let f = m.free_places i n in omega (arith, f, le);
}

-- mini sectors were taken
pub mini-taken : (limit : ℕ) (old free new queue touched more : List ℕ) (unused left places count : ℕ) → IsMini limit old free unused places
    → TakesMini limit old new touched more → length more ≡ count → ListsMiniFree queue new → TakesEndFirst queue new → ((i : ℕ) → Contains queue i → Contains free i)
    → length old + (count - free_count old) ≤ limit → length old + (count - free_count old) ≤ places → left ≡ unused - count → IsMini limit new queue left places
mini-taken limit old free new queue touched more unused left places count m t is listed next fewer enough held rest =
    let len = t.len in
    let count_left = t.left in
    let was = m.counted in
    record {
      listed = listed;
      next = next;
      counted = omega (arith, count_left, was, rest, is);
      short = omega (arith, len, is, enough);
      limited = m.limited;
      table_places = omega (arith, len, is, held);
      free_places = λ i n. m.free_places i (fewer i n);
    }

-- ---- listed chains

-- a chain starts at its first member
pub chain-start : (table : List ℕ) (start : ℕ) (list : List ℕ) → IsChain table start list → start ≡ first_or_end list
chain-start table start [] c = c.follows
chain-start table start (x ∷ list) c = c.follows.0

pub listed-chain : (table : List ℕ) (start : ℕ) (list : List ℕ) → IsChain table start list → IsChain table (first_or_end list) list
listed-chain table start list c = subst (λ (k : ℕ). IsChain table k list) (chain-start table start list c) c

-- and ends at its last one
pub listed-ended : (table list : List ℕ) → IsChain table (first_or_end list) list → 0 < length list → value table (last_or_end list) ≡ end_of_chain
listed-ended table list c some = (last_is table (first_or_end list) list c some).0

-- what was taken behind the last one of a listed chain is appended to the list
pub listed-extends : (limit : ℕ) (old new list list' : List ℕ) (n last : ℕ) → n ≡ length list → 0 < n → last ≡ last_or_end list → take n list' ≡ list
    → TakesMini limit old new (last ∷ []) (drop n list') → IsChain new last (last ∷ drop n list') → IsChain old (first_or_end list) list
    → IsChain new (first_or_end list') list'
listed-extends limit old new [] list' n last e some is before t goes was = absurd (omega (arith, some, e))
listed-extends limit old new (x ∷ rest) list' n last e some is before t goes was =
    let list = x ∷ rest in
    let more = drop n list' in
    let front = take (length list - 1) list in
    let split : list ≡ front ++ last ∷ [] = last_split list (omega (arith, some, e)) ∙ ap (λ (k : ℕ). front ++ k ∷ []) (sym is) in
    let whole : IsChain new x (front ++ last ∷ more) = taking-extends limit old new last more x front t goes (subst (IsChain old x) split was) in
    let same : front ++ last ∷ more ≡ list ++ more = sym (append_assoc front (last ∷ []) more) ∙ ap (λ (z : List ℕ). z ++ more) (sym split) in
    let now : list ++ more ≡ list' = ap (λ (z : List ℕ). z ++ more) (sym before) ∙ take-append-drop n list' in
    subst (λ (z : List ℕ). IsChain new (first_or_end z) z) now (subst (IsChain new x) same whole)

-- where some members are left, the chain ends at the last of them
pub left-ends : (table list : List ℕ) (left : ℕ) → 0 < left → left ≤ length list → IsChain table (first_or_end list) list
    → ends_of (take left list) ≡ slice_index list (left - 1) ∷ []
left-ends table list left some fewer c =
    let len : length (take left list) ≡ left = length-take left list ∙ (let m : min left (length list) ≡ left = omega (arith, fewer) in m) in
    let whole : take left list ++ drop left list ≡ list = take-append-drop left list in
    let ends = (what_is_left-ends table (take left list) (drop left list) (omega (arith, len, some)) (subst (λ (z : List ℕ). IsChain table (first_or_end z) z) (sym whole) c)).0 in
    let at : length (take left list) - 1 ≡ left - 1 = omega (arith, len) in
    let is : last_or_end (take left list) ≡ slice_index list (left - 1) =
    ap (λ (k : ℕ). get_or (take left list) k end_of_chain) at ∙ get_or-take left list (left - 1) end_of_chain (omega (arith, some))
    ∙ get_or_default list (left - 1) end_of_chain 0 (omega (arith, some, fewer)) in
    ends ∙ ap (λ (k : ℕ). k ∷ []) is
