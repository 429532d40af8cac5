-- Chains that are freed and cut by a list of their members.
use Rattle.std.proofs.Common.{◌≡◌, ◌≢◌, ℕ, ◌+◌, ◌-◌, ◌<◌, ◌≤◌, Bool, List, [], ◌∷◌, ◌++◌, length, set, take, drop, refl, sym, ◌∙◌, ap, subst, arith, length-set, length-append, append_assoc, ne_eqb}
use Rattle.std.specs.Prelude.{Contains, slice_index, if◌then◌else◌}
use Rattle.std.proofs.Transfers.{drop-appended}
use Rattle.std.proofs.lemmas.List.{take_more, take_all, take-append-drop, get_or_push, length-drop}
use Rattle.std.proofs.lemmas.List.Elements.{Contains-append_right}
use Rattle.cfb_format.specs.Bytes.{free_sector, end_of_chain, max_regular_sector}
use Rattle.cfb_format.specs.Chain.{value, IsChain}
use Rattle.cfb_tables.specs.Changes.{GivesBack}
use Rattle.cfb_format.proofs.Unique.{IsChain-unique}
use Rattle.cfb_tables.specs.Tables.{TableState, IsKept, HasTaken, Added, wiped, ending, first_or_end}
use Rattle.cfb_tables.specs.Listed.{WhatIsLeftIsChain, WhatIsLeftEnds, EndsChain, last_or_end, ends_of, gained}
use Rattle.cfb_tables.proofs.ChainLemmas.{chain-turn, chain-rest, members-busy}
use Rattle.cfb_tables.proofs.FreeLemmas.{lists-count, count-most}
use Rattle.cfb_tables.proofs.KeptLemmas.{kept-push}
use Rattle.cfb_tables.proofs.AttachLemmas.{wiped-freed, extended, last-known}
use Rattle.cfb_format.proofs.Members.{Contains-here, distinct-apart}
use Rattle.cfb_format.proofs.Walks.{value-below, chain_of, regular-le}

-- ---- room in the list of free numbers

-- there is a number in use, so not all are free
pub fewer-free : (t : TableState) (free : List ℕ) (x : ℕ) → IsKept t free → value t.fat x ≢ free_sector → length free < length t.fat
fewer-free t free x k busy =
    let below = value-below t.fat x busy in
    let next = set t.fat x free_sector in
    let count = lists-count (free ++ x ∷ []) next (kept-push t free x below busy k).listed in
    let most = count-most next in
    let len = length-append free (x ∷ []) in
    let same = length-set t.fat x free_sector in
    omega (arith, count, most, len, same)

-- ---- what is left of a chain

pub end_chain : (table : List ℕ) → IsChain table end_of_chain []
end_chain table = chain_of table end_of_chain [] refl

pub ending_other : (last : ℕ) → last ≢ end_of_chain → ending last ≡ last ∷ []
ending_other last ne = ap (λ (b : Bool). if b then [] else last ∷ []) (ne_eqb last end_of_chain ne)

pub last_split : (xs : List ℕ) → 0 < length xs → xs ≡ take (length xs - 1) xs ++ last_or_end xs ∷ []
last_split xs some =
    let n : length xs ≡ length xs - 1 + 1 = omega (arith, some) in
    sym (take_all (length xs) xs (omega arith)) ∙ ap (λ (k : ℕ). take k xs) n ∙ take_more xs (length xs - 1) end_of_chain (omega (arith, some))

pub last_pushed : (front : List ℕ) (y : ℕ) → last_or_end (front ++ y ∷ []) ≡ y
last_pushed front y =
    let len : length (front ++ y ∷ []) ≡ length front + 1 = length-append front (y ∷ []) in
    get_or_push front y end_of_chain (length (front ++ y ∷ []) - 1) (omega (arith, len))

pub freed-by-list : (table list : List ℕ) (s : ℕ) → IsChain table s list → GivesBack [] list table (wiped table list)
freed-by-list table list s c = wiped-freed list table (λ i m. (members-busy table s list c i m).1)

pub shortened-to-none : (list old new : List ℕ) (left : ℕ) → left ≡ 0 → GivesBack [] list old new → GivesBack (ends_of (take left list)) (drop left list) old new
shortened-to-none list old new left none f = subst (λ k. GivesBack (ends_of (take k list)) (drop k list) old new) (sym none) f

-- what a slice from there on lists
pub rest-is : (list : List ℕ) (left : ℕ) → take (length list - left) (drop left list) ≡ drop left list
rest-is list left = let len = length-drop left list in take_all (length list - left) (drop left list) (omega (arith, len))

-- the member that becomes the last one, with those before it and behind it
module _ (list : List ℕ) (left : ℕ) (some : 0 < left) (fewer : left ≤ length list) where
  abbrev last : ℕ
  last = slice_index list (left - 1)

  left_is : take left list ≡ take (left - 1) list ++ last ∷ []
  left_is = let n : left ≡ left - 1 + 1 = omega (arith, some) in ap (λ (k : ℕ). take k list) n ∙ take_more list (left - 1) 0 (omega (arith, some, fewer))

  whole_is : list ≡ take (left - 1) list ++ last ∷ drop left list
  whole_is =
      sym (take-append-drop left list) ∙ ap (λ (z : List ℕ). z ++ drop left list) left_is ∙ append_assoc (take (left - 1) list) (last ∷ []) (drop left list)

  module _ (table : List ℕ) (s : ℕ) (c : IsChain table s list) where
    goes_on : IsChain table s (take (left - 1) list ++ last ∷ drop left list)
    goes_on = subst (IsChain table s) whole_is c

    pub behind-is : IsChain table (value table last) (drop left list)
    behind-is = chain-rest table s (take (left - 1) list) last (drop left list) goes_on

    pub last-there : (value table last ≢ free_sector) × (last < length table) × (last ≤ max_regular_sector)
    last-there =
        let m = members-busy table s (take (left - 1) list ++ last ∷ drop left list) goes_on last
        (Contains-append_right (take (left - 1) list) (last ∷ drop left list) last (Contains-here last (drop left list))) in
        (m.0, m.1, regular-le last m.2)

    ending_is : ending (last_or_end (take left list)) ≡ last ∷ []
    ending_is =
        let low = last-there.2 in
        ap ending (ap last_or_end left_is ∙ last_pushed (take (left - 1) list) last) ∙ ending_other last (λ is. omega (arith, low, is))

    pub shortened-behind : (new : List ℕ) → GivesBack (last ∷ []) (drop left list) table new → GivesBack (ends_of (take left list)) (drop left list) table new
    shortened-behind new cut = subst (λ (z : List ℕ). GivesBack z (drop left list) table new) (sym ending_is) cut

-- the last one of what is left
module _ (old : List ℕ) (x : ℕ) (list gone : List ℕ) (c : IsChain old x (x ∷ list ++ gone)) where
  abbrev tip : ℕ
  tip = last_or_end (x ∷ list)

  abbrev head : List ℕ
  head = take (length (x ∷ list) - 1) (x ∷ list)

  split_is : x ∷ list ≡ head ++ tip ∷ []
  split_is = last_split (x ∷ list) (omega arith)

  whole_chain : IsChain old x (head ++ tip ∷ gone)
  whole_chain = subst (IsChain old x) (ap (λ (z : List ℕ). z ++ gone) split_is ∙ append_assoc head (tip ∷ []) gone) c

  tip_alone : ending tip ≡ tip ∷ []
  tip_alone =
      let low = regular-le tip (members-busy old x (head ++ tip ∷ gone) whole_chain tip (Contains-append_right head (tip ∷ gone) tip (Contains-here tip gone))).2 in
      ending_other tip (λ e. omega (arith, low, e))

  pub behind_tip : (ends_of (x ∷ list) ≡ tip ∷ []) × IsChain old (value old tip) gone
  behind_tip = (tip_alone, chain-rest old x head tip gone whole_chain)

  module _ (new : List ℕ) (cut : GivesBack (ends_of (x ∷ list)) gone old new) where
    tip_ended : value new tip ≡ end_of_chain
    tip_ended = cut.ended tip (subst (λ (e : List ℕ). Contains e tip) (sym tip_alone) (Contains-here tip []))

    turned : IsChain new x (x ∷ list)
    turned =
        let stays : (i : ℕ) → Contains head i → value new i ≡ value old i =
        λ i m. cut.only i (λ t. distinct-apart head (tip ∷ gone) whole_chain.distinct i m (subst (λ (e : List ℕ). Contains (e ++ gone) i) tip_alone t)) in
        let below : tip < length new = value-below new tip (λ e. let ended = tip_ended in omega (arith, e, ended)) in
        let tail : IsChain new (value new tip) [] = subst (λ k. IsChain new k []) (sym tip_ended) (end_chain new) in
        subst (IsChain new x) (sym split_is) (chain-turn old new x head tip gone [] stays below whole_chain tail)

pub what_is_left-is-chain : WhatIsLeftIsChain
what_is_left-is-chain old new [] gone c cut = end_chain new
what_is_left-is-chain old new (x ∷ list) gone c cut = turned old x list gone c new cut

pub what_is_left-ends : WhatIsLeftEnds
what_is_left-ends old [] gone some c = absurd (omega (arith, some))
what_is_left-ends old (x ∷ list) gone some c = behind_tip old x list gone c

-- ---- growth of a listed chain

pub gained_is : (ids ids' more : List ℕ) → ids' ≡ ids ++ more → gained ids ids' ≡ more
gained_is ids ids' more e = drop-appended ids ids' more e

pub gained_listed : (ids ids' more : List ℕ) → ids' ≡ ids ++ more → ids' ≡ ids ++ gained ids ids'
gained_listed ids ids' more e = e ∙ ap (λ (z : List ℕ). ids ++ z) (sym (gained_is ids ids' more e))

-- the last one of a listed chain ends it
module _ (table : List ℕ) (s : ℕ) (ids : List ℕ) (c : IsChain table s ids) (some : 0 < length ids) where
  abbrev before_last : List ℕ
  before_last = take (length ids - 1) ids

  last_whole : IsChain table s (before_last ++ last_or_end ids ∷ [])
  last_whole = subst (IsChain table s) (last_split ids some) c

  pub last_is : (value table (last_or_end ids) ≡ end_of_chain) × (last_or_end ids ≤ max_regular_sector)
  last_is = last-known table s before_last (last_or_end ids) last_whole

  pub last_alone : ends_of ids ≡ last_or_end ids ∷ []
  last_alone = ending_other (last_or_end ids) (λ e. let le = last_is.1 in omega (arith, le, e))

pub grown_chain : (t t' : TableState) (s : ℕ) (ids more : List ℕ) → IsChain t.fat s ids → HasTaken t t' (ends_of ids) more
    → IsChain t'.fat (first_or_end (ends_of ids ++ more)) (ends_of ids ++ more) → IsChain t'.fat (first_or_end (ids ++ more)) (ids ++ more)
grown_chain t t' s [] more c taken chain = chain
grown_chain t t' s (x ∷ list) more c taken chain =
    let some : 0 < length (x ∷ list) = omega arith in
    let last = last_or_end (x ∷ list) in
    let one = last_alone t.fat s (x ∷ list) c some in
    let goes : IsChain t'.fat last (last ∷ more) = subst (λ (e : List ℕ). IsChain t'.fat (first_or_end (e ++ more)) (e ++ more)) one chain in
    let took : HasTaken t t' (last ∷ []) more = subst (λ (e : List ℕ). HasTaken t t' e more) one taken in
    let ext = extended t t' s (before_last t.fat s (x ∷ list) c some) last more (last_whole t.fat s (x ∷ list) c some) took goes in
    let was : x ∷ list ≡ ext.front ++ ext.last ∷ [] = IsChain-unique t.fat s (x ∷ list) (ext.front ++ ext.last ∷ []) c ext.was in
    let whole : ext.front ++ ext.last ∷ more ≡ x ∷ (list ++ more) = sym (append_assoc ext.front (ext.last ∷ []) more) ∙ ap (λ (z : List ℕ). z ++ more) (sym was) in
    subst (λ k. IsChain t'.fat k (x ∷ (list ++ more))) c.follows.0 (subst (IsChain t'.fat s) whole ext.chain)

-- ---- growth of a list whose last one ends a chain

pub chain_ends : (table : List ℕ) (s : ℕ) (ids : List ℕ) → IsChain table s ids → EndsChain table ids
chain_ends table s ids c some = (last_is table s ids c some).0

module _ (table ids : List ℕ) (short : length table ≤ max_regular_sector) (ends : EndsChain table ids) (some : 0 < length ids) where
  pub ended_regular : last_or_end ids ≤ max_regular_sector
  ended_regular = let is = ends some in let lt = value-below table (last_or_end ids) (λ e. omega (arith, e, is)) in omega (arith, lt, short)

  pub ended_alone : ends_of ids ≡ last_or_end ids ∷ []
  ended_alone = let le = ended_regular in ending_other (last_or_end ids) (λ e. omega (arith, le, e))

-- sectors were added behind the last one of a list, and appended to it
module _ (t t' : TableState) (last : ℕ) (ids ids' : List ℕ) (short : length t.fat ≤ max_regular_sector) (ends : EndsChain t.fat ids) (some : 0 < length ids)
    (is : last ≡ last_or_end ids) (added : Added t t' last ids ids') where
  added_ends : ends_of ids ≡ last ∷ []
  added_ends = ended_alone t.fat ids short ends some ∙ ap (λ k. k ∷ []) (sym is)

  took_more : HasTaken t t' (ends_of ids) added.more
  took_more = subst (λ (e : List ℕ). HasTaken t t' e added.more) (sym added_ends) added.taken

  goes_behind : IsChain t'.fat (first_or_end (ends_of ids ++ added.more)) (ends_of ids ++ added.more)
  goes_behind = subst (λ (e : List ℕ). IsChain t'.fat (first_or_end (e ++ added.more)) (e ++ added.more)) (sym added_ends) added.chain

  pub added_taken : HasTaken t t' (ends_of ids) (gained ids ids')
  added_taken = subst (HasTaken t t' (ends_of ids)) (sym (gained_is ids ids' added.more added.listed)) took_more

  pub added_behind : IsChain t'.fat (first_or_end (ends_of ids ++ gained ids ids')) (ends_of ids ++ gained ids ids')
  added_behind =
      subst (λ (z : List ℕ). IsChain t'.fat (first_or_end (ends_of ids ++ z)) (ends_of ids ++ z)) (sym (gained_is ids ids' added.more added.listed)) goes_behind

  pub added_chain : IsChain t.fat (first_or_end ids) ids → IsChain t'.fat (first_or_end ids') ids'
  added_chain c = subst (λ (z : List ℕ). IsChain t'.fat (first_or_end z) z) (sym added.listed) (grown_chain t t' (first_or_end ids) ids added.more c took_more goes_behind)
