-- The steps of a change of the MiniFAT in memory.
use Rattle.std.specs.Prelude.{ℕ, ◌≡◌, ◌≢◌, ◌+◌, ◌-◌, ◌<◌, ◌≤◌, List, [], ◌∷◌, ◌++◌, length, nat_eq, Contains}
use Rattle.std.specs.List.{IsDistinct}
use Rattle.cfb_format.specs.Bytes.{end_of_chain, free_sector, max_regular_sector}
use Rattle.cfb_format.specs.Chain.{value, IsChain}
use Rattle.cfb_format.specs.Full.{free_count}
use Rattle.cfb_tables.specs.Changes.{ChangesOnlyValues}
use Rattle.cfb_tables.specs.Tables.{wiped}
use Rattle.cfb_mini_table.specs.MiniTable.{EndsBusy, ListsMiniFree}

-- one number is taken, as the only one of a chain
pub record TakesOne (old new : List ℕ) (x : ℕ) : Type 0 where
  pub fresh : value old x ≡ free_sector
  pub ended : value new x ≡ end_of_chain
  pub below : x < length new
  pub only : ChangesOnlyValues (x ∷ []) old new
  pub left : free_count new ≡ free_count old - 1
  pub len : length new ≡ length old + (1 - free_count old)
  pub trimmed : EndsBusy new

-- several were taken, each as the only one of a chain so far
pub record Taking (limit : ℕ) (old now more : List ℕ) : Type 0 where
  pub once : IsDistinct nat_eq more
  pub fresh : (i : ℕ) → Contains more i → value old i ≡ free_sector
  pub below : (i : ℕ) → Contains more i → i < length now
  pub ends : (i : ℕ) → Contains more i → value now i ≡ end_of_chain
  pub only : ChangesOnlyValues more old now
  pub left : free_count now ≡ free_count old - length more
  pub len : length now ≡ length old + (length more - free_count old)
  pub limited : length old < length now → length now ≤ limit
  pub trimmed : 0 < length more → EndsBusy now
  pub none : length more ≡ 0 → now ≡ old

-- the numbers may be linked behind the last one
pub record CanLink (table : List ℕ) (last : ℕ) (list : List ℕ) : Type 0 where
  pub ends : (i : ℕ) → Contains (last ∷ list) i → value table i ≡ end_of_chain
  pub regular : (i : ℕ) → Contains (last ∷ list) i → i ≤ max_regular_sector
  pub once : IsDistinct nat_eq (last ∷ list)

-- the chain that the last one ended goes on by these
pub record Links (old new : List ℕ) (last : ℕ) (list : List ℕ) : Type 0 where
  pub chain : IsChain new last (last ∷ list)
  pub only : ChangesOnlyValues (last ∷ list) old new
  pub same_length : length new ≡ length old
  pub left : free_count new ≡ free_count old
  pub busy : (i : ℕ) → value old i ≢ free_sector → value new i ≢ free_sector
  pub listed : (free : List ℕ) → ListsMiniFree free old → ListsMiniFree free new
  pub none : length list ≡ 0 → new ≡ old

-- so many entries less are in use
pub record Freeing (table now free queue done : List ℕ) : Type 0 where
  pub table_is : now ≡ wiped table done
  pub free_is : queue ≡ free ++ done
  pub counted : free_count now ≡ free_count table + length done
  pub listed : ListsMiniFree queue now
