-- The tables of a file that was cut short, as far as they can be followed, and what stands in them (MS-CFB 2.2 to 2.6).
use Rattle.std.specs.Prelude.{ℕ, zero, suc, ◌+◌, ◌-◌, ◌*◌, ◌/◌, ◌%◌, ◌≡◌, ◌<◌, ◌≤◌, ◌⊎◌, List, length, true, Option, Some, None, slice_get, option_and_then, if◌then◌else◌}
use Rattle.std.specs.List.{All, Contains}
use Rattle.std.specs.Option.{option_map}
use Rattle.cfb_format.specs.declared.version.Version.{Version}
use Rattle.cfb_format.specs.Bytes.{word_at, sector_start, sector_len, words_per_sector, is_regular, end_of_chain, free_sector}
use Rattle.cfb_format.specs.Header.{HasFixedFields}
use Rattle.cfb_mending.specs.declared.patches.Patch.{Patch}

-- ---- the DIFAT

-- where a DIFAT sector names the next one, if that number is one of a sector
abbrev pub link_in : Version → ℕ → Option ℕ
link_in version s = if is_regular s then Some (sector_start version s + 4 * (words_per_sector version - 1)) else None

-- where the number of the first DIFAT sector stands, and of the one behind so many
unfoldable pub difat_link : Version → List ℕ → ℕ → Option ℕ
difat_link version bytes zero = Some 68
difat_link version bytes (suc n) = option_and_then (λ at. link_in version (word_at bytes at)) (difat_link version bytes n)

-- the number of a DIFAT sector stands there
abbrev pub IsDifatLink : Version → List ℕ → ℕ → Type 0
IsDifatLink version bytes at = (n : ℕ) × (difat_link version bytes n ≡ Some at)

-- the sector is one of the DIFAT
pub record IsDifatSector (version : Version) (bytes : List ℕ) (s : ℕ) : Type 0 where
  pub at : ℕ
  pub link : IsDifatLink version bytes at
  pub named : word_at bytes at ≡ s
  pub regular : is_regular s ≡ true

-- one of so many words from a place on stands there
pub record IsAmongWords (from count at : ℕ) : Type 0 where
  pub index : ℕ
  pub below : index < count
  pub place : at ≡ from + 4 * index

-- an entry of the DIFAT stands there: in the header, or in a DIFAT sector
pub record IsEntryIn (version : Version) (bytes : List ℕ) (at : ℕ) : Type 0 where
  pub sector : ℕ
  pub difat : IsDifatSector version bytes sector
  pub among : IsAmongWords (sector_start version sector) (words_per_sector version - 1) at

abbrev pub IsDifatEntry : Version → List ℕ → ℕ → Type 0
IsDifatEntry version bytes at = IsAmongWords 76 109 at ⊎ IsEntryIn version bytes at

-- the sector is one of the FAT: an entry of the DIFAT names it
pub record IsFatSector (version : Version) (bytes : List ℕ) (s : ℕ) : Type 0 where
  pub at : ℕ
  pub entry : IsDifatEntry version bytes at
  pub named : word_at bytes at ≡ s

-- ---- chains

-- where the FAT in these sectors has its word on a sector, if it has one
abbrev pub fat_place : Version → List ℕ → ℕ → Option ℕ
fat_place version fat s = option_map (λ holder. sector_start version holder + 4 * (s % words_per_sector version)) (slice_get fat (s / words_per_sector version))

-- where the number of a chain's first sector stands, and of the one behind so many
unfoldable pub chain_link : Version → List ℕ → List ℕ → ℕ → ℕ → Option ℕ
chain_link version bytes fat start zero = Some start
chain_link version bytes fat start (suc n) = option_and_then (λ at. fat_place version fat (word_at bytes at)) (chain_link version bytes fat start n)

abbrev pub IsChainLink : Version → List ℕ → List ℕ → ℕ → ℕ → Type 0
IsChainLink version bytes fat start at = (n : ℕ) × (chain_link version bytes fat start n ≡ Some at)

-- the sector is one of the chain whose first sector stands at this place
pub record IsOnChain (version : Version) (bytes fat : List ℕ) (start s : ℕ) : Type 0 where
  pub at : ℕ
  pub link : IsChainLink version bytes fat start at
  pub named : word_at bytes at ≡ s

-- where the header has the first sector of the directory, and that of the MiniFAT (MS-CFB 2.2)
abbrev pub directory_start : ℕ
directory_start = 48

abbrev pub minifat_start : ℕ
minifat_start = 60

-- ---- places

-- the sector is one of the FAT, the DIFAT, the directory or the MiniFAT
abbrev pub IsTableSector : Version → List ℕ → List ℕ → ℕ → Type 0
IsTableSector version bytes fat s = Contains fat s ⊎ (IsDifatSector version bytes s
    ⊎ (IsOnChain version bytes fat directory_start s ⊎ IsOnChain version bytes fat minifat_start s))

-- the byte at this place is one of the sector
pub record IsInSector (version : Version) (s place : ℕ) : Type 0 where
  pub from : sector_start version s ≤ place
  pub upto : place < sector_start version s + sector_len version

-- the byte at this place is one of the header behind its fixed fields
pub record IsInHeader (place : ℕ) : Type 0 where
  pub from : directory_start ≤ place
  pub upto : place < 512

-- the byte at this place is one of the header or of such a sector
pub record IsInTable (version : Version) (bytes fat : List ℕ) (place : ℕ) : Type 0 where
  pub sector : ℕ
  pub table : IsTableSector version bytes fat sector
  pub inside : IsInSector version sector place

abbrev pub IsTablePlace : Version → List ℕ → List ℕ → ℕ → Type 0
IsTablePlace version bytes fat place = IsInHeader place ⊎ IsInTable version bytes fat place

-- ---- patches

-- a mark: the end of a chain, or free, which is also no entry
abbrev pub IsMark : ℕ → Type 0
IsMark word = (word ≡ end_of_chain) ⊎ (word ≡ free_sector)

-- zeros: from the start of an entry of the directory that the file has not whole, in its sector
pub record IsCutEntry (version : Version) (bytes fat : List ℕ) (p : Patch) : Type 0 where
  pub sector : ℕ
  pub directory : IsOnChain version bytes fat directory_start sector
  pub inside : IsInSector version sector p.at
  pub ends : p.«end» ≤ sector_start version sector + sector_len version
  pub entry : p.at % 128 ≡ 0
  pub cut : length bytes < p.at + 128
  pub zeros : p.word ≡ 0

-- only bytes of tables are read otherwise, and as marks, or as zeros where an entry is cut
pub record IsInTables (version : Version) (bytes fat : List ℕ) (p : Patch) : Type 0 where
  pub places : (place : ℕ) → p.at ≤ place → place < p.«end» → IsTablePlace version bytes fat place
  pub word : IsMark p.word ⊎ IsCutEntry version bytes fat p

abbrev pub AreInTables : Version → List ℕ → List ℕ → List Patch → Type 0
AreInTables version bytes fat patches = All (IsInTables version bytes fat) patches

-- ---- the end

-- the file is read up to the end of a sector of a table, of which it has the first bytes and not the last
pub record IsPadded (version : Version) (bytes fat : List ℕ) (least : ℕ) : Type 0 where
  pub sector : ℕ
  pub table : IsTableSector version bytes fat sector
  pub begun : sector_start version sector < length bytes
  pub cut : length bytes < least
  pub ends : least ≡ sector_start version sector + sector_len version

-- what is read otherwise are words of the tables, and the file goes on only where such a sector is cut
pub record MendsTables (bytes : List ℕ) (patches : List Patch) (least : ℕ) : Type 0 where
  pub version : Version
  pub fixed : HasFixedFields bytes version
  pub fat : List ℕ
  pub listed : All (IsFatSector version bytes) fat
  pub tables : AreInTables version bytes fat patches
  pub padding : (least ≡ 0) ⊎ IsPadded version bytes fat least
