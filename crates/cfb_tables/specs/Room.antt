-- Room that is asked for before anything is taken: a sum of several calls, and numbers that come free before them.
use Rattle.std.specs.Prelude.{ℕ, ◌+◌, ◌-◌, ◌≤◌, List, length}
use Rattle.cfb_format.specs.Bytes.{max_regular_sector}
use Rattle.cfb_format.specs.Full.{CanTake, free_count}
use Rattle.cfb_format.specs.Reading.{Reading}
use Rattle.cfb_tables.specs.Tables.{TableState, AreSizes, IsCovered, AreFullTables, IsTooFew, PassesLimit, HasTaken, sizes_of, tables_of}

-- there are too few numbers for so many sectors, even once `given_back` more are free
abbrev pub IsTooFewAfter : TableState → ℕ → ℕ → Type 0
IsTooFewAfter t given_back count = PassesLimit t.version t.max_sectors (sizes_of t) (count - (free_count t.fat + given_back))

-- the tables that a file of this limit was read into
abbrev pub tables_read : ℕ → Reading → TableState
tables_read limit r = tables_of r.header.version limit r.fat r.fat_sectors r.difat_sectors

-- ---- laws

-- where nothing is given back it is what the tables lack now
abbrev pub NothingGivenBack : Type 0
NothingGivenBack = (t : TableState) (count : ℕ) → (IsTooFewAfter t 0 count → IsTooFew t count) × (IsTooFew t count → IsTooFewAfter t 0 count)

-- with too few numbers there is no room, whatever sizes the tables are given
abbrev pub TooFewIsNoRoomAfter : Type 0
TooFewIsNoRoomAfter = (limit : ℕ) (r : Reading) (given_back count : ℕ) → IsTooFewAfter (tables_read limit r) given_back count
    → CanTake limit r given_back count → ⊥

-- and with enough of them there is, where the FAT covers the file
abbrev pub EnoughIsRoomAfter : Type 0
EnoughIsRoomAfter = (limit : ℕ) (r : Reading) (given_back count : ℕ) → AreSizes r.header.version (sizes_of (tables_read limit r))
    → limit ≤ max_regular_sector → IsCovered (tables_read limit r)
    → (IsTooFewAfter (tables_read limit r) given_back count → ⊥) → CanTake limit r given_back count

-- where a few are too many, more are too
abbrev pub MoreIsTooFew : Type 0
MoreIsTooFew = (t : TableState) (count more : ℕ) → count ≤ more → IsTooFew t count → IsTooFew t more

-- what is needed can be taken in parts: after the first part there is room for the rest exactly if there was for both
abbrev pub RoomInTurn : Type 0
RoomInTurn = (old new : TableState) (touched more : List ℕ) (rest : ℕ) → HasTaken old new touched more
    → (IsTooFew new rest → IsTooFew old (length more + rest)) × ((IsTooFew old (length more) → ⊥) → IsTooFew old (length more + rest) → IsTooFew new rest)

-- when all that fits was taken, the tables are full
abbrev pub AllTakenIsFull : Type 0
AllTakenIsFull = (old new : TableState) (touched more : List ℕ) → HasTaken old new touched more
    → (IsTooFew old (length more) → ⊥) → IsTooFew old (length more + 1) → AreFullTables new
