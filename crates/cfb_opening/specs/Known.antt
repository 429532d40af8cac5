-- What is known of a file that is being opened, part by part (MS-CFB 2.2 to 2.6).
use Rattle.std.specs.Prelude.{ℕ, ◌≡◌, ◌↔◌, ◌*◌, ◌≤◌, List, [], Bool, false, length, IsTrue}
use Rattle.cfb_format.specs.declared.header.Header.{Header}
use Rattle.cfb_format.specs.declared.validate.Validation.{Validation}
use Rattle.cfb_format.specs.declared.version.Version.{Version}
use Rattle.cfb_format.specs.Bytes.{entries_per_sector, sector_count, words_per_sector}
use Rattle.cfb_format.specs.DirectoryEntry.{Entry}
use Rattle.cfb_format.specs.Fat.{IsFat, IsStrictFat}
use Rattle.cfb_format.specs.Full.{max_entries}
use Rattle.cfb_format.specs.Header.{AcceptsHeader, IfStrict}
use Rattle.cfb_format.specs.Names.{Cases}
use Rattle.cfb_format.specs.Reading.{HasLength, IsStrictCount, Outline, Reading, no_more}
use Rattle.cfb_format.specs.Soundness.{PointsIntoFile}
use Rattle.cfb_sectors.specs.Sectors.{SectorFile}
use Rattle.cfb_opening.specs.cfb_tables.Tables.{TableState}
use Rattle.cfb_alloc.specs.Alloc.{AllocatorState}
use Rattle.cfb_opening.specs.cfb_entries.EntryList.{HaveShortNames}
use Rattle.cfb_outline.specs.Outlines.{AcceptsOutline}
use Rattle.cfb_reading.specs.Difat.{AcceptsDifat}
use Rattle.cfb_reading.specs.ReadDirectory.{AcceptsDirectory}
use Rattle.cfb_reading.specs.ReadMinifat.{HasMinifatWords}
use Rattle.cfb_opening.specs.cfb_directory.State.{AreWritable, DirectoryState}

-- ---- the header

-- the sectors of a file with these bytes that nobody has changed yet
abbrev pub unchanged_sectors : Version → List ℕ → ℕ → SectorFile
unchanged_sectors version bytes failures = record {
  version = version;
  len = length bytes;
  num_sectors = sector_count version bytes;
  bytes = bytes;
  failures = failures;
  begun = false;
}

-- opening in this mode takes the header and the length
pub record AcceptsHead (validation : Validation) (bytes : List ℕ) (h : Header) : Type 0 where
  pub header : AcceptsHeader validation bytes h
  pub len : HasLength h.version bytes

-- it takes none
abbrev pub AcceptsNoHead : Validation → List ℕ → Type 0
AcceptsNoHead validation bytes = (h : Header) → AcceptsHead validation bytes h → ⊥

-- ---- the tables

-- it takes the header and these tables
pub record AcceptsTables (validation : Validation) (bytes : List ℕ) (h : Header) (t : TableState) : Type 0 where
  pub head : AcceptsHead validation bytes h
  pub difat : AcceptsDifat validation bytes h t.fat_sectors t.difat_sectors
  pub fat : IsFat h.version bytes t.fat_sectors t.difat_sectors t.fat
  pub strict : IfStrict validation (IsStrictFat h.version bytes t.fat_sectors t.difat_sectors)

-- the parts so far
abbrev pub table_parts : Header → TableState → Reading
table_parts h t = record {
  header = h;
  fat_sectors = t.fat_sectors;
  difat_sectors = t.difat_sectors;
  fat = t.fat;
  directory = [];
  entries = [];
  outline = no_more;
  minifat_sectors = [];
  minifat = [];
}

-- the header and the tables are read, and it is told whether the words of the FAT point into the file
pub record KnowsTables (validation : Validation) (bytes : List ℕ) (failures : ℕ) (h : Header) (a : AllocatorState) (points : Bool) : Type 0 where
  pub file : a.file ≡ unchanged_sectors h.version bytes failures
  pub version : a.tables.version ≡ h.version
  pub tables : AcceptsTables validation bytes h a.tables
  pub into_file : IsTrue points ↔ PointsIntoFile bytes (table_parts h a.tables)

-- ---- the directory's entries and the MiniFAT's words

-- these are the entries in the slots of some sectors that it takes for the directory
pub record KnowsEntries (validation : Validation) (bytes : List ℕ) (h : Header) (t : TableState) (entries : List Entry) : Type 0 where
  pub sectors : List ℕ
  pub accepted : AcceptsDirectory validation h.version bytes t.fat h.first_dir_sector sectors entries
  pub count : length entries ≡ length sectors * entries_per_sector h.version
  pub short : HaveShortNames entries
  pub few : length entries ≤ max_entries
  pub writable : AreWritable h.version entries

-- these are all words of the sectors of the MiniFAT
pub record KnowsWords (bytes : List ℕ) (h : Header) (t : TableState) (words : List ℕ) : Type 0 where
  pub sectors : List ℕ
  pub has : HasMinifatWords h.version bytes t.fat h.first_minifat_sector sectors words
  pub count : length words ≡ length sectors * words_per_sector h.version

-- all that the medium is asked for is read
pub record KnowsParts (validation : Validation) (bytes : List ℕ) (failures : ℕ) (h : Header) (a : AllocatorState) (points : Bool) (entries : List Entry)
    (words : List ℕ) : Type 0 where
  pub tables : KnowsTables validation bytes failures h a points
  pub slots : KnowsEntries validation bytes h a.tables entries
  pub minifat : KnowsWords bytes h a.tables words

-- ---- the directory

-- it takes the directory, with this outline
pub record KnowsDirectory (validation : Validation) (cases : Cases) (bytes : List ℕ) (failures : ℕ) (h : Header) (d : DirectoryState) (points : Bool) : Type 0 where
  pub tables : KnowsTables validation bytes failures h d.table points
  pub letters : d.cases ≡ cases
  pub directory : AcceptsDirectory validation h.version bytes d.table.tables.fat h.first_dir_sector d.sectors d.entries
  pub counted : IfStrict validation (IsStrictCount h.version h.num_dir_sectors (length d.sectors))
  pub writable : AreWritable h.version d.entries
  pub outline : Outline
  pub outlined : AcceptsOutline validation cases d.entries outline
