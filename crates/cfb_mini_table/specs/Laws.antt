-- What the words about the MiniFAT in memory promise about each other.
use Rattle.std.specs.Prelude.{ℕ, ◌≡◌, ◌+◌, ◌-◌, ◌<◌, ◌≤◌, ◌↔◌, List, [], ◌∷◌, ◌++◌, length, take, flat_map, slice_index}
use Rattle.cfb_format.specs.declared.version.Version.{Version}
use Rattle.cfb_format.specs.Bytes.{sector_words}
use Rattle.cfb_format.specs.Chain.{value, IsChain}
use Rattle.cfb_format.specs.Full.{free_count}
use Rattle.cfb_format.specs.Reading.{minifat_words}
use Rattle.cfb_tables.specs.Changes.{AreDisjoint}
use Rattle.cfb_tables.specs.Owners.{Takes, Frees}
use Rattle.cfb_tables.specs.Listed.{ends_of}
use Rattle.cfb_tables.specs.Tables.{first_or_end}
use Rattle.cfb_mini_table.specs.MiniTable.{MiniTableState, trimmed, EndsBusy, SameValues, IsTooFewMini, IsPreparedMini, TakesMini, MiniGivesBack, AreBusy}

-- ---- the end of the table

-- without the free entries at the end the values are the same, and the table ends busy
pub record IsTrimmed (table new : List ℕ) : Type 0 where
  pub values : SameValues table new
  pub busy : EndsBusy new
  pub shorter : length new ≤ length table

abbrev pub TrimmedIsTrimmed : Type 0
TrimmedIsTrimmed = (table : List ℕ) → IsTrimmed table (trimmed table)

-- so the values alone say how long the table is
abbrev pub ValuesFixTheTable : Type 0
ValuesFixTheTable = (xs ys : List ℕ) → EndsBusy xs → EndsBusy ys → SameValues xs ys → xs ≡ ys

-- the words of the MiniFAT's sectors begin with the table, and those behind it are free or count for nothing
pub record AgreesWithWords (table words : List ℕ) : Type 0 where
  pub covered : length table ≤ length words
  pub same : (m : ℕ) → m < length table → slice_index words m ≡ value table m

-- then opening reads just this table, where the mini stream has as many mini sectors as it has entries
abbrev pub HeldTableIsRead : Type 0
HeldTableIsRead = (version : Version) (bytes sectors table : List ℕ) (most : ℕ) → AgreesWithWords table (flat_map (sector_words version bytes) sectors)
    → EndsBusy table → most ≡ length table → table ≡ take most (minifat_words version bytes sectors)

-- ---- fullness

-- of a table that is no longer than it may be: one more is too many exactly where none is free and the limit is reached
abbrev pub FullOfMiniSectors : Type 0
FullOfMiniSectors = (limit : ℕ) (table : List ℕ) → length table ≤ limit → IsTooFewMini limit table 1 ↔ ((free_count table ≡ 0) × (limit ≤ length table))

-- what is needed can be taken in parts
abbrev pub MiniRoomInTurn : Type 0
MiniRoomInTurn = (limit : ℕ) (old new touched more : List ℕ) (rest : ℕ) → TakesMini limit old new touched more
    → IsTooFewMini limit new rest ↔ IsTooFewMini limit old (length more + rest)

abbrev pub MiniPreparedInTurn : Type 0
MiniPreparedInTurn = (old new : MiniTableState) (touched more : List ℕ) (rest : ℕ) → TakesMini old.limit old.minifat new.minifat touched more
    → new ≡ record old { minifat = new.minifat } → IsPreparedMini old (length more + rest) → IsPreparedMini new rest

-- what is given back can be taken again
abbrev pub MiniRoomGivenBack : Type 0
MiniRoomGivenBack = (limit : ℕ) (ends gone old new : List ℕ) (count : ℕ) → MiniGivesBack ends gone old new → length old ≤ limit
    → IsTooFewMini limit new count ↔ IsTooFewMini limit old (count - length gone)

abbrev pub MiniPreparedGivenBack : Type 0
MiniPreparedGivenBack = (old new : MiniTableState) (ends gone : List ℕ) (count : ℕ) → MiniGivesBack ends gone old.minifat new.minifat
    → new ≡ record old { minifat = new.minifat } → IsPreparedMini old (count - length gone) → IsPreparedMini new count

-- ---- chains

-- other chains stay as mini sectors are taken
abbrev pub TakingLeavesChains : Type 0
TakingLeavesChains = (limit : ℕ) (old new touched more : List ℕ) (start : ℕ) (list : List ℕ) → TakesMini limit old new touched more → AreDisjoint list touched
    → IsChain old start list → IsChain new start list

-- and the chain whose last member went on goes on
abbrev pub TakingExtendsChain : Type 0
TakingExtendsChain = (limit : ℕ) (old new : List ℕ) (last : ℕ) (more : List ℕ) (start : ℕ) (front : List ℕ) → TakesMini limit old new (last ∷ []) more
    → IsChain new last (last ∷ more) → IsChain old start (front ++ last ∷ []) → IsChain new start (front ++ last ∷ more)

-- other chains stay as mini sectors are given back
abbrev pub FreeingLeavesChains : Type 0
FreeingLeavesChains = (left gone old new : List ℕ) (start : ℕ) (list : List ℕ) → MiniGivesBack left gone old new → AreDisjoint list (left ++ gone)
    → IsChain old start list → IsChain new start list

-- and a chain that was cut ends at the member that is left
abbrev pub CuttingShortensChain : Type 0
CuttingShortensChain = (old new : List ℕ) (last : ℕ) (gone : List ℕ) (start : ℕ) (front : List ℕ) → MiniGivesBack (last ∷ []) gone old new
    → IsChain old start (front ++ last ∷ gone) → IsChain new start (front ++ last ∷ [])

-- what is left of a listed chain whose last members are given back is a chain
abbrev pub MiniLeftIsChain : Type 0
MiniLeftIsChain = (old new left gone : List ℕ) → IsChain old (first_or_end (left ++ gone)) (left ++ gone) → MiniGivesBack (ends_of left) gone old new
    → IsChain new (first_or_end left) left

-- the members of a chain can be given back
abbrev pub ChainsCanBeGivenBack : Type 0
ChainsCanBeGivenBack = (table : List ℕ) (start : ℕ) (list : List ℕ) → IsChain table start list → AreBusy table list

-- ---- which numbers are in use

-- what the table takes and frees is taken and given back as owners see it
abbrev pub MiniTakenIsTaking : Type 0
MiniTakenIsTaking = (limit : ℕ) (old new touched more : List ℕ) → TakesMini limit old new touched more → Takes old new touched more

abbrev pub MiniGivenBackIsFreeing : Type 0
MiniGivenBackIsFreeing = (left gone old new : List ℕ) → MiniGivesBack left gone old new → Frees old new left gone
