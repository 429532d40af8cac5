-- The tables of a sound file (MS-CFB 2.3 and 2.5).
use Rattle.std.specs.Prelude.{ℕ, ◌≡◌, List, length, Contains}
use Rattle.cfb_format.specs.declared.validate.Validation.{Validation}
use Rattle.cfb_format.specs.declared.validate.Validation.TheVariants.{Permissive, Strict}
use Rattle.cfb_format.specs.declared.header.Header.{Header}
use Rattle.cfb_format.specs.Header.{IsHeader}
use Rattle.cfb_format.specs.Fat.{IsStrictDifat, IsStrictFat}
use Rattle.cfb_format.specs.Chain.{IsChain}
use Rattle.cfb_format.specs.Names.{Cases}
use Rattle.cfb_format.specs.Reading.{Reading, Reads}
use Rattle.cfb_format.specs.Soundness.{IsSound}
use Rattle.cfb_alloc.specs.Alloc.{AllocatorState, HoldsTables, IsUsable}
use Rattle.cfb_alloc.specs.InSector.{IsNoTableSector}

-- ---- laws

-- the tables of a sound file are those that its bytes hold
abbrev pub SoundTablesAreHeld : Type 0
SoundTablesAreHeld = (cases : Cases) (bytes : List ℕ) (r : Reading) (a : AllocatorState) → Reads cases bytes r → IsSound bytes r
    → a.file.bytes ≡ bytes → a.file.len ≡ length bytes → a.tables.version ≡ r.header.version → a.tables.fat ≡ r.fat
    → a.tables.fat_sectors ≡ r.fat_sectors → a.tables.difat_sectors ≡ r.difat_sectors → HoldsTables Permissive a

-- also as strict opening wants it, if it takes the DIFAT and the FAT
abbrev pub StrictTablesAreHeld : Type 0
StrictTablesAreHeld = (cases : Cases) (bytes : List ℕ) (r : Reading) (a : AllocatorState) → Reads cases bytes r → IsSound bytes r
    → IsStrictDifat bytes r.header r.fat_sectors r.difat_sectors → IsStrictFat r.header.version bytes r.fat_sectors r.difat_sectors
    → a.file.bytes ≡ bytes → a.file.len ≡ length bytes → a.tables.version ≡ r.header.version → a.tables.fat ≡ r.fat
    → a.tables.fat_sectors ≡ r.fat_sectors → a.tables.difat_sectors ≡ r.difat_sectors → HoldsTables Strict a

-- tables that are held as strict opening wants it are a DIFAT and a FAT that it takes
abbrev pub HeldTablesAreStrict : Type 0
HeldTablesAreStrict = (a : AllocatorState) → HoldsTables Strict a
    → (h : Header) × IsHeader a.file.bytes h × IsStrictDifat a.file.bytes h a.tables.fat_sectors a.tables.difat_sectors
    × IsStrictFat a.tables.version a.file.bytes a.tables.fat_sectors a.tables.difat_sectors

-- where the bytes hold the tables, no member of a chain is a table sector
abbrev pub MembersAreNoTableSectors : Type 0
MembersAreNoTableSectors = (validation : Validation) (a : AllocatorState) (start : ℕ) (list : List ℕ) → HoldsTables validation a
    → IsChain a.tables.fat start list → (i : ℕ) → Contains list i → IsNoTableSector a.tables i

-- and the tables can be changed
abbrev pub HeldTablesAreUsable : Type 0
HeldTablesAreUsable = (validation : Validation) (a : AllocatorState) → HoldsTables validation a → IsUsable a.tables
