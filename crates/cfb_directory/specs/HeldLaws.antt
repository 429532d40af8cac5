-- What the bytes of a directory that they hold are, and what it stays through (MS-CFB 2.6).
use Rattle.std.specs.Prelude.{ℕ, ◌≡◌, List, length}
use Rattle.std.specs.List.{AllZip}
use Rattle.cfb_format.specs.declared.validate.Validation.{Validation}
use Rattle.cfb_format.specs.declared.validate.Validation.TheVariants.{Strict}
use Rattle.cfb_format.specs.declared.header.Header.{Header}
use Rattle.cfb_format.specs.Bytes.{word_at}
use Rattle.cfb_format.specs.DirectoryEntry.{IsStrictEntry, slots}
use Rattle.cfb_format.specs.Header.{IsHeader, IsStrictHeader}
use Rattle.cfb_format.specs.Reading.{IsDirectory, IsStrictCount}
use Rattle.cfb_directory.specs.cfb_tables.Changes.{AreDisjoint}
use Rattle.cfb_directory.specs.cfb_tables.Tables.{AreSizes, sizes_of}
use Rattle.cfb_alloc.specs.Alloc.{AllocatorState, HoldsTables}
use Rattle.cfb_alloc.specs.Frame.{Spares}
use Rattle.cfb_directory.specs.State.{DirectoryState, HoldsDirectory, directory_bytes, directory_tables, directory_version}

-- a directory that the bytes hold is the one that opening reads
abbrev pub HeldDirectoryIsRead : Type 0
HeldDirectoryIsRead = (validation : Validation) (d : DirectoryState) → HoldsDirectory validation d
    → IsDirectory (directory_version d) (directory_bytes d) (directory_tables d).fat (word_at (directory_bytes d) 48) d.sectors d.entries

-- strict opening takes the header, the count of sectors in it, and each slot
pub record IsStrictDirectory (d : DirectoryState) (h : Header) : Type 0 where
  pub header : IsStrictHeader h.version (directory_bytes d)
  pub directory_count : IsStrictCount h.version h.num_dir_sectors (length d.sectors)
  pub entries : AllZip (IsStrictEntry h.version) (slots h.version (directory_bytes d) d.sectors) d.entries

-- and where they hold it as strict opening wants it, that takes it
abbrev pub HeldDirectoryIsStrict : Type 0
HeldDirectoryIsStrict = (d : DirectoryState) (h : Header) → HoldsDirectory Strict d → IsHeader (directory_bytes d) h → IsStrictDirectory d h

-- a change that spares its sectors, and leaves the words of the header that speak of it, leaves it held
abbrev pub DirectoryStaysHeld : Type 0
DirectoryStaysHeld = (validation : Validation) (own : List ℕ) (d : DirectoryState) (a : AllocatorState) → HoldsDirectory validation d
    → HoldsTables validation a → AreSizes a.tables.version (sizes_of a.tables) → Spares own d.table a → AreDisjoint d.sectors own
    → word_at a.file.bytes 40 ≡ word_at (directory_bytes d) 40 → word_at a.file.bytes 48 ≡ word_at (directory_bytes d) 48
    → HoldsDirectory validation (record d { table = a })
