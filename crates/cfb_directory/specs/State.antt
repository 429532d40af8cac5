-- What a directory keeps, and what of it the bytes hold (MS-CFB 2.6).
use Rattle.std.specs.Prelude.{ℕ, ◌≡◌, ◌≢◌, ◌<◌, ◌≤◌, ◌⊎◌, ◌+◌, List, [], false, length, slice_index, if◌then◌else◌}
use Rattle.cfb_format.specs.declared.version.Version.{Version}
use Rattle.cfb_format.specs.declared.version.Version.TheVariants.{V3, V4}
use Rattle.cfb_format.specs.declared.validate.Validation.{Validation}
use Rattle.cfb_format.specs.declared.objtype.ObjType.TheVariants.{Unallocated}
use Rattle.cfb_format.specs.Bytes.{word_at, entries_per_sector}
use Rattle.cfb_format.specs.Chain.{IsChain}
use Rattle.cfb_format.specs.Header.{IfStrict, IsStrictHeader}
use Rattle.cfb_format.specs.Names.{Cases}
use Rattle.cfb_format.specs.Reading.{IsStrictCount}
use Rattle.cfb_format.specs.DirectoryEntry.{Entry, EntryFits, IsValidEntry}
use Rattle.cfb_format.specs.Siblings.{entry_at}
use Rattle.cfb_directory.specs.cfb_tables.Tables.{TableState, AreSizes, IsTooFew, first_or_end, sizes_of}
use Rattle.cfb_alloc.specs.Agreement.{HasSectors}
use Rattle.cfb_alloc.specs.Alloc.{AllocatorState, HoldsTables}
use Rattle.cfb_directory.specs.cfb_siblings.Laws.{grown_by}
use Rattle.cfb_format.specs.Full.{max_entries}
use Rattle.cfb_entries.specs.EntryList.{EntryList, has_free}
use Rattle.cfb_slots.specs.Slots.{HoldSlotsBut}

-- the sectors of a file with their tables, the directory's sectors in order, the letters by which names are compared, and the entries
pub record DirectoryState : Type 0 where
  pub table : AllocatorState
  pub sectors : List ℕ
  pub cases : Cases
  pub entries : List Entry

-- these as a directory
abbrev pub directory_of : AllocatorState → List ℕ → EntryList → DirectoryState
directory_of table sectors list = record { table = table; sectors = sectors; cases = list.cases; entries = list.entries }

abbrev pub directory_version : DirectoryState → Version
directory_version d = d.table.tables.version

abbrev pub directory_bytes : DirectoryState → List ℕ
directory_bytes d = d.table.file.bytes

abbrev pub directory_tables : DirectoryState → TableState
directory_tables d = d.table.tables

-- ---- what the bytes hold

-- each entry that is used can be written into a slot, and is read back from there
abbrev pub AreWritable : Version → List Entry → Type 0
AreWritable version entries = (k : ℕ) → k < length entries → (entry_at entries k).obj_type ≢ Unallocated
    → EntryFits (entry_at entries k) × IsValidEntry version (entry_at entries k)

-- the bytes hold the tables, and the directory: its sectors are the chain that the header names, and their slots hold the entries, as
-- this mode takes them
pub record HoldsDirectory (validation : Validation) (d : DirectoryState) : Type 0 where
  pub tables : HoldsTables validation d.table
  pub sizes : AreSizes (directory_version d) (sizes_of (directory_tables d))
  pub chain : IsChain (directory_tables d).fat (first_or_end d.sectors) d.sectors
  pub some : d.sectors ≢ []
  pub whole : HasSectors (directory_version d) (directory_bytes d) d.sectors
  pub first : word_at (directory_bytes d) 48 ≡ first_or_end d.sectors
  pub slots : HoldSlotsBut [] validation (directory_version d) (directory_bytes d) d.sectors d.entries
  pub writable : AreWritable (directory_version d) d.entries
  pub most : length d.entries ≤ max_entries
  pub counted : IfStrict validation (IsStrictCount (directory_version d) (word_at (directory_bytes d) 40) (length d.sectors))
  pub strict_header : IfStrict validation (IsStrictHeader (directory_version d) (directory_bytes d))

-- ---- fullness

-- one more entry can't be had: no slot is free, and the directory has as many as it may have, or no sector can be had
abbrev pub IsFullForEntry : DirectoryState → Type 0
IsFullForEntry d = (has_free d.entries ≡ false)
    × ((max_entries < length d.entries + entries_per_sector (directory_version d)) ⊎ IsTooFew (directory_tables d) 1)

-- the entries among which a new one is put: where no slot is free, those of one more sector come behind them
abbrev pub with_room : DirectoryState → List Entry
with_room d = if has_free d.entries then d.entries else grown_by d.entries (entries_per_sector (directory_version d))

-- ---- what every call leaves alone

-- the version, the letters and the greatest number of sectors stay
pub record KeepsDirectoryLimits (old new : DirectoryState) : Type 0 where
  pub version : directory_version new ≡ directory_version old
  pub cases : new.cases ≡ old.cases
  pub max_sectors : (directory_tables new).max_sectors ≡ (directory_tables old).max_sectors

-- a byte of the header that no change of the directory writes: it does not speak of the tables, nor, in version 4, counts the
-- directory's sectors (MS-CFB 2.2)
abbrev pub IsKeptHeaderByte : Version → ℕ → Type 0
IsKeptHeaderByte V3 i = (i < 44) ⊎ ((48 ≤ i) × (i < 68))
IsKeptHeaderByte V4 i = (i < 40) ⊎ ((48 ≤ i) × (i < 68))

abbrev pub KeepsDirectoryHeader : DirectoryState → DirectoryState → Type 0
KeepsDirectoryHeader old new = (i : ℕ) → i < length (directory_bytes old) → IsKeptHeaderByte (directory_version old) i → slice_index (directory_bytes new) i ≡ slice_index (directory_bytes old) i
