-- The words of the MiniFAT, as they are read off the medium (MS-CFB 2.4).
use Rattle.std.specs.Prelude.{ℕ, ◌≡◌, ◌/◌, ◌≤◌, List, true, length, flat_map}
use Rattle.std.specs.List.{list_all}
use Rattle.cfb_format.specs.declared.version.Version.{Version}
use Rattle.cfb_format.specs.declared.version.Version.TheVariants.{V3}
use Rattle.cfb_format.specs.declared.validate.Validation.{Validation}
use Rattle.cfb_format.specs.Bytes.{is_whole_sector, max_stream_len, sector_words}
use Rattle.cfb_format.specs.Chain.{IsChain}
use Rattle.cfb_format.specs.Full.{max_mini_sectors}
use Rattle.cfb_format.specs.Header.{IfStrict}
use Rattle.cfb_format.specs.Reading.{IsMinifat, minifat_words}
use Rattle.cfb_mini_table.specs.MiniTable.{AcceptsMini, read_entries}

-- these are the words of the sectors of the MiniFAT that begins there, all of which are whole
pub record HasMinifatWords (version : Version) (bytes fat : List ℕ) (first : ℕ) (sectors all : List ℕ) : Type 0 where
  pub chain : IsChain fat first sectors
  pub whole : list_all (is_whole_sector version bytes) sectors ≡ true
  pub words : all ≡ flat_map (sector_words version bytes) sectors

-- no sectors are those of a MiniFAT that begins there
abbrev pub NoMinifatWords : Version → List ℕ → List ℕ → ℕ → Type 0
NoMinifatWords version bytes fat first = (sectors all : List ℕ) → HasMinifatWords version bytes fat first sectors all → ⊥

-- opening in this mode takes this for the MiniFAT that begins there, beside a mini stream of that length
pub record AcceptsMinifat (validation : Validation) (version : Version) (bytes fat : List ℕ) (first root_len : ℕ) (sectors table : List ℕ) : Type 0 where
  pub minifat : IsMinifat version bytes fat first root_len sectors table
  pub strict : IfStrict validation (length (minifat_words version bytes sectors) ≤ root_len / 64)

-- ---- laws

-- where the table of mini sectors takes the words, it is the MiniFAT
abbrev pub WordsMakeTheMinifat : Type 0
WordsMakeTheMinifat = (validation : Validation) (version : Version) (bytes fat : List ℕ) (first root_len limit : ℕ) (sectors all : List ℕ)
    → HasMinifatWords version bytes fat first sectors all → AcceptsMini validation limit (root_len / 64) all
    → AcceptsMinifat validation version bytes fat first root_len sectors (read_entries (root_len / 64) all)

-- where there is a MiniFAT, and no longer one than this, the table takes its words
abbrev pub MinifatIsMadeOfWords : Type 0
MinifatIsMadeOfWords = (validation : Validation) (version : Version) (bytes fat : List ℕ) (first root_len limit : ℕ) (sectors all table : List ℕ)
    → HasMinifatWords version bytes fat first sectors all → AcceptsMinifat validation version bytes fat first root_len sectors table
    → length table ≤ limit → AcceptsMini validation limit (root_len / 64) all

-- in version 3 none is longer than there are numbers of mini sectors
abbrev pub MinifatIsShort : Type 0
MinifatIsShort = (bytes fat : List ℕ) (first root_len : ℕ) (sectors table : List ℕ) → root_len ≤ max_stream_len V3
    → IsMinifat V3 bytes fat first root_len sectors table → length table ≤ max_mini_sectors V3
