-- Tables that the bytes hold: what is no table sector, and that they can be changed.
use Rattle.std.proofs.Common.{◌≡◌, ◌<◌, ◌≤◌, ◌⊎◌, inl, inr, ℕ, List, length, arith}
use Rattle.std.specs.Prelude.{Contains, slice_index}
use Rattle.std.proofs.lemmas.Map.Steps.{length-le_from_distinct_below}
use Rattle.cfb_format.specs.Bytes.{end_of_chain, max_regular_sector, fat_sector, difat_sector}
use Rattle.cfb_format.specs.Chain.{value}
use Rattle.cfb_tables.proofs.ChainLemmas.{follows-values}
use Rattle.cfb_tables.proofs.WordLemmas.{found_below}
use Rattle.cfb_alloc.specs.Held.{MembersAreNoTableSectors, HeldTablesAreUsable}
use Rattle.cfb_format.proofs.Walks.{follows-member, value-at}

-- a mark is no member's value
no_mark : (table : List ℕ) (i w : ℕ) → i < length table → (value table i ≤ max_regular_sector) ⊎ (value table i ≡ end_of_chain) → slice_index table i ≡ w
    → max_regular_sector < w → w < end_of_chain → ⊥
no_mark table i w lt is mark low high =
    let same = value-at table i lt in
    elim is [ inl le ↦ omega (arith, le, same, mark, low) | inr e ↦ omega (arith, e, same, mark, high) ]

pub members-no_table : MembersAreNoTableSectors
members-no_table validation a start list h chain i m =
    let fat = a.tables.fat in
    let lt = (follows-member fat start list chain.follows i m).0 in
    let is = follows-values fat start list chain.follows i m in
    let agrees = h.holds.agrees in
    let no_fat : Contains a.tables.fat_sectors i → ⊥ = λ c. no_mark fat i fat_sector lt is (agrees.fat_marks i c).1 (omega arith) (omega arith) in
    (no_fat, (λ c. no_mark fat i difat_sector lt is (agrees.difat_marks i c no_fat) (omega arith) (omega arith)))

pub held-usable : HeldTablesAreUsable
held-usable validation a h =
    let agrees = h.holds.agrees in
    record {
      covered = agrees.covers;
      few = length-le_from_distinct_below a.tables.fat_sectors (length a.tables.fat) agrees.once
          (found_below (length a.tables.fat) a.tables.fat_sectors (λ i m. (agrees.fat_marks i m).0));
    }
