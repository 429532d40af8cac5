-- The tables of a file in memory: the FAT, the FAT sectors and the DIFAT sectors.
use Rattle.std.specs.Prelude.{ℕ, zero, suc, ◌≡◌, ◌+◌, ◌-◌, ◌*◌, ◌<◌, ◌≤◌, ◌⊎◌, max, List, [], ◌∷◌, ◌++◌, length, nat_eq, nat_lt, Contains, slice_set, if◌then◌else◌, ◌==◌}
use Rattle.std.specs.List.{IsDistinct}
use Rattle.cfb_format.specs.declared.version.Version.{Version}
use Rattle.cfb_format.specs.Bytes.{end_of_chain, free_sector, fat_sector, difat_sector, max_regular_sector, words_per_sector}
use Rattle.cfb_format.specs.Chain.{value, IsChain}
use Rattle.cfb_format.specs.Full.{HasRoom, free_count, rounded_up}
use Rattle.cfb_format.specs.Header.{header_difat_len}
use Rattle.cfb_tables.specs.declared.lists.Sizes.{Sizes}
use Rattle.cfb_tables.specs.Changes.{ChangesOnlyValues, NoneFree, ListsFree, GivesBack}

-- the FAT's values, the FAT sectors and the DIFAT sectors in order, and the number of sectors that the file may grow to
pub record TableState : Type 0 where
  pub version : Version
  pub max_sectors : ℕ
  pub fat : List ℕ
  pub fat_sectors : List ℕ
  pub difat_sectors : List ℕ

-- ---- sizes

abbrev pub sizes_of : TableState → Sizes
sizes_of t = record { sectors = length t.fat; fats = length t.fat_sectors; difats = length t.difat_sectors }

-- how many numbers past the end one more sector takes: a FAT sector comes first where the FAT doesn't cover the next
-- number, and a DIFAT sector behind it where the header's places and the DIFAT sectors are full
abbrev pub numbers_needed : Version → Sizes → ℕ
numbers_needed version s =
    if nat_lt s.sectors (s.fats * words_per_sector version) then 1
    else if nat_lt s.fats (header_difat_len + s.difats * (words_per_sector version - 1)) then 2
    else 3

-- how many of so many numbers are FAT sectors, and how many DIFAT sectors
abbrev pub fats_among : ℕ → ℕ
fats_among numbers = if nat_lt numbers 2 then 0 else 1

abbrev pub difats_among : ℕ → ℕ
difats_among numbers = if nat_lt numbers 3 then 0 else 1

abbrev pub grown_sizes : Sizes → ℕ → Sizes
grown_sizes s numbers = record {
  sectors = s.sectors + numbers;
  fats = s.fats + fats_among numbers;
  difats = s.difats + difats_among numbers;
}

-- the sizes with so many sectors more past the end
unfoldable pub sizes_after : Version → ℕ → Sizes → Sizes
sizes_after version zero s = s
sizes_after version (suc more) s = sizes_after version more (grown_sizes s (numbers_needed version s))

-- the DIFAT has a place for each FAT sector, and the numbers are those of sectors
pub record AreSizes (version : Version) (s : Sizes) : Type 0 where
  pub short : s.sectors ≤ max_regular_sector
  pub places : s.fats ≤ header_difat_len + s.difats * (words_per_sector version - 1)
  pub difats : s.difats ≤ s.sectors

-- the FAT sectors have a word for each sector
abbrev pub IsCovered : TableState → Type 0
IsCovered t = length t.fat ≤ length t.fat_sectors * words_per_sector t.version

-- there are as many FAT sectors as cover the file, and as many DIFAT sectors as list those that the header doesn't
pub record AreExactTables (t : TableState) : Type 0 where
  pub fats : length t.fat_sectors ≡ rounded_up (length t.fat) (words_per_sector t.version)
  pub difats : length t.difat_sectors ≡ rounded_up (length t.fat_sectors - header_difat_len) (words_per_sector t.version - 1)

-- ---- fullness

-- no number is free, and fewer are left than one more sector takes
pub record AreFullTables (t : TableState) : Type 0 where
  pub none : NoneFree t.fat
  pub few : t.max_sectors - length t.fat < numbers_needed t.version (sizes_of t)

-- so many sectors more past the end pass the limit
abbrev pub PassesLimit : Version → ℕ → Sizes → ℕ → Type 0
PassesLimit version limit s more = (0 < more) × (limit < (sizes_after version more s).sectors)

-- there are too few numbers for so many sectors: those that no free number serves, and the table sectors that they need,
-- pass the limit
abbrev pub IsTooFew : TableState → ℕ → Type 0
IsTooFew t count = PassesLimit t.version t.max_sectors (sizes_of t) (count - free_count t.fat)

-- so many sectors can be taken
abbrev pub CanTakeSectors : TableState → ℕ → Type 0
CanTakeSectors t count =
    HasRoom t.version t.max_sectors (length t.fat) (length t.fat_sectors) (length t.difat_sectors) (count - free_count t.fat)

-- ---- laws of fullness

-- the tables are full exactly if there are too few numbers for one sector
abbrev pub FullIsTooFew : Type 0
FullIsTooFew = (t : TableState) → (AreFullTables t → IsTooFew t 1) × (IsTooFew t 1 → AreFullTables t)

-- with too few numbers there is no room, whatever sizes the tables are given
abbrev pub TooFewIsNoRoom : Type 0
TooFewIsNoRoom = (t : TableState) (count : ℕ) → IsTooFew t count → CanTakeSectors t count → ⊥

-- and with enough of them there is, where the FAT covers the file
abbrev pub EnoughIsRoom : Type 0
EnoughIsRoom = (t : TableState) (count : ℕ) → AreSizes t.version (sizes_of t) → t.max_sectors ≤ max_regular_sector → IsCovered t
    → (IsTooFew t count → ⊥) → CanTakeSectors t count

-- ---- taking

-- `more` are taken for chains, and FAT sectors and DIFAT sectors come with them; the chains' last members so far, which
-- are `touched`, may go on
pub record HasTaken (old new : TableState) (touched more : List ℕ) : Type 0 where
  pub fats : List ℕ
  pub difats : List ℕ
  pub fat_sectors : new.fat_sectors ≡ old.fat_sectors ++ fats
  pub difat_sectors : new.difat_sectors ≡ old.difat_sectors ++ difats
  pub fat_marks : (i : ℕ) → Contains fats i → value new.fat i ≡ fat_sector
  pub difat_marks : (i : ℕ) → Contains difats i → value new.fat i ≡ difat_sector
  -- all of them were free or are new
  pub fresh : (i : ℕ) → Contains (more ++ fats ++ difats) i → value old.fat i ≡ free_sector
  -- and the table sectors are new
  pub past : (i : ℕ) → Contains (fats ++ difats) i → length old.fat ≤ i
  pub once : IsDistinct nat_eq more
  pub fats_once : IsDistinct nat_eq fats
  pub difats_once : IsDistinct nat_eq difats
  pub ends : (i : ℕ) → Contains touched i → value old.fat i ≡ end_of_chain
  pub busy : (i : ℕ) → Contains (touched ++ more) i → (value new.fat i ≤ max_regular_sector) ⊎ (value new.fat i ≡ end_of_chain)
  pub only : ChangesOnlyValues (touched ++ more ++ fats ++ difats) old.fat new.fat
  -- the file grows only where no number is free, and never past its limit
  pub longer : length old.fat ≤ length new.fat
  pub none_free : length old.fat < length new.fat → NoneFree new.fat
  pub limited : length old.fat < length new.fat → length new.fat ≤ old.max_sectors
  -- the free numbers are taken first, and past the end come the sectors that fullness counts, no more
  pub left : free_count new.fat ≡ free_count old.fat - length more
  pub sizes : sizes_of new ≡ sizes_after old.version (length more - free_count old.fat) (sizes_of old)
  pub exact : AreExactTables old → AreExactTables new
  -- the FAT sectors cover the file again, if they did
  pub covered : IsCovered old → IsCovered new
  -- FAT sectors are added only until they cover the file
  pub fat_count : IsCovered old → length new.fat_sectors ≡ max (length old.fat_sectors) (rounded_up (length new.fat) (words_per_sector new.version))
  -- and DIFAT sectors only until they list those that the header doesn't
  pub difat_count : length new.difat_sectors ≡ max (length old.difat_sectors) (rounded_up (length new.fat_sectors - header_difat_len) (words_per_sector new.version - 1))
  pub same_version : new.version ≡ old.version
  pub same_max : new.max_sectors ≡ old.max_sectors

-- where the chain of these sectors starts
abbrev pub first_or_end : List ℕ → ℕ
first_or_end [] = end_of_chain
first_or_end (x ∷ list) = x

-- some sectors were taken for the chain that these end, or for a new one
abbrev pub TakesFor : List ℕ → TableState → TableState → Type 0
TakesFor touched old new = (more : List ℕ) × HasTaken old new touched more

-- the last member of a chain that goes on, or none for a chain that begins
abbrev pub ending : ℕ → List ℕ
ending last = if last == end_of_chain then [] else last ∷ []

-- tables give these numbers back, a chain ends at each of `ends`, and nothing else changed
pub record TablesGiveBack (ends gone : List ℕ) (old new : TableState) : Type 0 where
  pub given : GivesBack ends gone old.fat new.fat
  pub rest : new ≡ record old { fat = new.fat }

-- they give back the chain that starts there
abbrev pub GivesBackChain : List ℕ → ℕ → TableState → TableState → Type 0
GivesBackChain ends start old new = (list : List ℕ) × IsChain old.fat start list × TablesGiveBack ends list old new

-- sectors were added behind the last one of a chain, and appended to a list
pub record Added (old new : TableState) (last : ℕ) (before after : List ℕ) : Type 0 where
  pub more : List ℕ
  pub listed : after ≡ before ++ more
  pub taken : HasTaken old new (last ∷ []) more
  pub chain : IsChain new.fat last (last ∷ more)

-- the chain from the start goes on by these sectors
pub record Extended (old new : TableState) (start : ℕ) (more : List ℕ) : Type 0 where
  pub front : List ℕ
  pub last : ℕ
  pub was : IsChain old.fat start (front ++ last ∷ [])
  pub chain : IsChain new.fat start (front ++ last ∷ more)
  pub taken : HasTaken old new (last ∷ []) more

-- the chain from the start goes on by some sectors
abbrev pub ExtendsFrom : ℕ → TableState → TableState → Type 0
ExtendsFrom start old new = (more : List ℕ) × Extended old new start more

-- ---- the lists in memory

-- the words of so many numbers past the end, the last of which is asked for, and which of them are table sectors
abbrev pub grown : ℕ → List ℕ
grown numbers =
    if nat_lt numbers 2 then end_of_chain ∷ []
    else if nat_lt numbers 3 then fat_sector ∷ end_of_chain ∷ []
    else fat_sector ∷ difat_sector ∷ end_of_chain ∷ []

abbrev pub grown_fats : ℕ → ℕ → List ℕ
grown_fats numbers first = if nat_lt numbers 2 then [] else first ∷ []

abbrev pub grown_difats : ℕ → ℕ → List ℕ
grown_difats numbers first = if nat_lt numbers 3 then [] else (first + 1) ∷ []

abbrev pub grown_state : TableState → ℕ → TableState
grown_state t numbers = record t {
  fat = t.fat ++ grown numbers;
  fat_sectors = t.fat_sectors ++ grown_fats numbers (length t.fat);
  difat_sectors = t.difat_sectors ++ grown_difats numbers (length t.fat);
}

-- the tables, the free numbers with the one that was freed last at the end, and how much the lists can hold
pub record Kept : Type 0 where
  pub state : TableState
  pub free : List ℕ
  pub fat_capacity : ℕ
  pub fats_capacity : ℕ
  pub difats_capacity : ℕ
  pub free_capacity : ℕ

pub record IsKept (state : TableState) (free : List ℕ) : Type 0 where
  pub listed : ListsFree (length state.fat) free state.fat
  pub sizes : AreSizes state.version (sizes_of state)
  pub limit : state.max_sectors ≤ max_regular_sector

-- and the list of free numbers has room for all of them, so that freeing asks for no memory
pub record IsHeld (k : Kept) : Type 0 where
  pub kept : IsKept k.state k.free
  pub room : length k.state.fat ≤ k.free_capacity

-- the lists can become so long
pub record CanHold (k : Kept) (s : Sizes) : Type 0 where
  pub fat : s.sectors ≤ k.fat_capacity
  pub fats : s.fats ≤ k.fats_capacity
  pub difats : s.difats ≤ k.difats_capacity
  pub free : s.sectors ≤ k.free_capacity

-- exactly what changes as x is taken: the number that was freed last, or numbers past the end
abbrev pub TakesNext : Kept → Kept → ℕ → Type 0
TakesNext old new x =
    ((old.free ≡ new.free ++ x ∷ []) × (new ≡ record old { free = new.free; state = record old.state { fat = slice_set old.state.fat x end_of_chain } }))
    ⊎ ((old.free ≡ []) × (x + 1 ≡ length old.state.fat + numbers_needed old.state.version (sizes_of old.state))
    × (new ≡ record old { state = grown_state old.state (numbers_needed old.state.version (sizes_of old.state)) }))

-- so many sectors can be taken with the memory that there is, and stay below the limit
pub record IsPrepared (k : Kept) (count : ℕ) : Type 0 where
  pub held : CanHold k (sizes_after k.state.version (count - length k.free) (sizes_of k.state))
  pub are : AreSizes k.state.version (sizes_after k.state.version (count - length k.free) (sizes_of k.state))
  pub limited : (0 < count - length k.free) → (sizes_after k.state.version (count - length k.free) (sizes_of k.state)).sectors ≤ k.state.max_sectors

-- the table with each number of the list made free
abbrev pub wiped : List ℕ → List ℕ → List ℕ
wiped table [] = table
wiped table (i ∷ list) = wiped (slice_set table i free_sector) list

-- the tables of these lists
abbrev pub tables_of : Version → ℕ → List ℕ → List ℕ → List ℕ → TableState
tables_of version max_sectors fat fat_sectors difat_sectors = record {
  version = version;
  max_sectors = max_sectors;
  fat = fat;
  fat_sectors = fat_sectors;
  difat_sectors = difat_sectors;
}
