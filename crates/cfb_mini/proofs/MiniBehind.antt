-- What a mini chain has behind its first mini sector.
use Rattle.std.proofs.Common.{◌≡◌, ◌≢◌, ◌≤◌, ◌<◌, inl, inr, ℕ, List, [], ◌∷◌, sym, ◌∙◌, ap, subst, length, take, drop, arith}
use Rattle.std.specs.Prelude.{Err, Ok, OnOk, Result}
use Rattle.std.proofs.lemmas.Bool.{cases_lt}
use Rattle.std.proofs.lemmas.List.{length-drop, nil_from_length}
use Rattle.cfb_format.specs.Bytes.{end_of_chain, free_sector}
use Rattle.cfb_format.specs.Chain.{IsChain, value}
use Rattle.cfb_format.proofs.Unique.{IsChain-unique}
use Rattle.cfb_mini.specs.cfb_tables.Listed.{ends_of}
use Rattle.cfb_mini.proofs.cfb_tables.ChainLemmas.{chain-rest}
use Rattle.cfb_mini.proofs.cfb_tables.ListedLemmas.{ending_other}
use Rattle.cfb_mini.specs.cfb_mini_table.MiniTable.{MiniGivesBack}
use Rattle.cfb_format.proofs.Walks.{chain_of, value-below}
use Rattle.cfb_format.proofs.Members.{Contains-here}

-- a chain that starts somewhere has its start as its first member
pub begun-at : (table : List ℕ) (start : ℕ) (ids : List ℕ) → start ≢ end_of_chain → IsChain table start ids → ids ≡ start ∷ drop 1 ids
begun-at table start [] ne c = absurd (ne c.follows)
begun-at table start (x ∷ xs) ne c = ap (λ (k : ℕ). k ∷ xs) (sym c.follows.0)

-- where it ends at its start, it has no other member
pub ends-at-start : (table : List ℕ) (start : ℕ) (ids : List ℕ) → start ≢ end_of_chain → IsChain table start ids → value table start ≡ end_of_chain → length ids ≤ 1
ends-at-start table start ids ne c ended =
    let same = begun-at table start ids ne c in
    let behind = drop 1 ids in
    let rest = chain-rest table start [] start behind (subst (λ (l : List ℕ). IsChain table start l) same c) in
    let none : behind ≡ [] = IsChain-unique table (value table start) behind [] rest (chain_of table (value table start) [] ended) in
    let len : length ids ≡ 1 = ap (λ (l : List ℕ). length l) (same ∙ ap (λ (l : List ℕ). start ∷ l) none) in
    omega (arith, len)

-- a chain is cut behind its start
pub cut-behind : (table new : List ℕ) (start : ℕ) (ids : List ℕ) → start ≢ end_of_chain → IsChain table start ids → MiniGivesBack (ends_of (take 1 ids)) (drop 1 ids) table new
    → MiniGivesBack (start ∷ []) (drop 1 ids) table new
cut-behind table new start ids ne c cut =
    subst (λ (l : List ℕ). MiniGivesBack l (drop 1 ids) table new) (ap (λ (l : List ℕ). ends_of (take 1 l)) (begun-at table start ids ne c) ∙ ending_other start ne) cut

-- ---- whether there is one

-- a chain that starts somewhere has a member
pub chain-some : (table : List ℕ) (start : ℕ) (ids : List ℕ) → start ≢ end_of_chain → IsChain table start ids → 0 < length ids
chain-some table start ids ne c = let len = ap (λ (l : List ℕ). length l) (begun-at table start ids ne c) in omega (arith, len)

-- and one that goes on there has one behind it
pub goes-behind : (table : List ℕ) (start : ℕ) (ids : List ℕ) → start ≢ end_of_chain → IsChain table start ids → value table start ≢ end_of_chain → 1 < length ids
goes-behind table start ids ne c on = elim (cases_lt 1 (length ids)) [
  | inl more ↦ more
  | inr few ↦
      let same = begun-at table start ids ne c in
      let len = length-drop 1 ids in
      let none : drop 1 ids ≡ [] = nil_from_length (drop 1 ids) (omega (arith, len, few)) in
      let rest = chain-rest table start [] start (drop 1 ids) (subst (λ (l : List ℕ). IsChain table start l) same c) in
      let last = subst (λ (l : List ℕ). IsChain table (value table start) l) none rest in
      absurd (on last.follows)
]

-- where a mini chain ends, there is a mini sector
pub still-some : (old new : List ℕ) (mini : ℕ) (gone : List ℕ) → MiniGivesBack (mini ∷ []) gone old new → new ≡ [] → ⊥
still-some old new mini gone cut none =
    let ended = cut.ended mini (Contains-here mini []) in
    let busy : value new mini ≢ free_sector = λ e. (let f = sym ended ∙ e in omega (arith, f)) in
    let inside = value-below new mini busy in
    let size = ap (λ (l : List ℕ). length l) none in
    omega (arith, inside, size)

-- what an answer says of what it says
pub on_ok_then : {T E : Type 0} (P Q : Type 0) (r : Result T E) → OnOk r P → (P → OnOk r Q) → OnOk r Q
on_ok_then P Q (Ok x) p f = f p
on_ok_then P Q (Err e) p f = tt
