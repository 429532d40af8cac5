-- The words of the FAT sectors, as they are read (MS-CFB 2.3).
use Rattle.std.specs.Prelude.{ℕ, ◌≡◌, ◌↔◌, ◌<◌, List, ◌++◌, Bool, true, false, length, take, drop, slice_index, slice_index_or, IsTrue}
use Rattle.std.specs.List.{list_all}
use Rattle.cfb_format.specs.declared.validate.Validation.{Validation}
use Rattle.cfb_format.specs.declared.version.Version.{Version}
use Rattle.cfb_format.specs.Bytes.{is_regular, is_whole_sector, sector_count, sector_words}
use Rattle.cfb_format.specs.Fat.{IsFat, IsStrictFat, fat_words, is_among, raw_fat}
use Rattle.cfb_format.specs.Header.{IfStrict}
use Rattle.cfb_format.specs.Reading.{Reading}
use Rattle.cfb_format.specs.Soundness.{PointsIntoFile}
use Rattle.cfb_sectors.specs.Sectors.{SectorFile}
use Rattle.cfb_reading.specs.cfb_tables.ReadFat.{AcceptsFat, is_padding_in}
use Rattle.cfb_reading.specs.Difat.{has_sector}

-- opening in this mode keeps these words of the FAT sectors, one for each of n sectors as far as there are any: the FAT sectors are
-- whole, and the words behind are padding
pub record AcceptsFatWords (validation : Validation) (n : ℕ) (version : Version) (bytes list kept : List ℕ) : Type 0 where
  pub whole : list_all (is_whole_sector version bytes) list ≡ true
  pub first : kept ≡ take n (fat_words version bytes list)
  pub padding : list_all (is_padding_in validation) (drop n (fat_words version bytes list)) ≡ true

-- it keeps none
abbrev pub AcceptsNoFatWords : Validation → ℕ → Version → List ℕ → List ℕ → Type 0
AcceptsNoFatWords validation n version bytes list = (kept : List ℕ) → AcceptsFatWords validation n version bytes list kept → ⊥

-- no word points past the last of n sectors, those of listed FAT and DIFAT sectors aside
abbrev pub PointsInto : ℕ → List ℕ → List ℕ → List ℕ → Type 0
PointsInto n words list own = (i : ℕ) → i < length words → is_among (list ++ own) i ≡ false
    → IsTrue (is_regular (slice_index words i)) → slice_index words i < n

-- ---- sectors that were met already

-- each sector with a mark is all there
abbrev pub AreThere : SectorFile → List Bool → Type 0
AreThere file checked = (i : ℕ) → slice_index_or checked i false ≡ true → has_sector file i ≡ true

-- each sector with a mark holds padding alone, as this mode wants it
abbrev pub ArePadding : Validation → SectorFile → List Bool → Type 0
ArePadding validation file checked = (i : ℕ) → slice_index_or checked i false ≡ true
    → list_all (is_padding_in validation) (sector_words file.version file.bytes i) ≡ true

-- ---- laws

-- the FAT that is made of the kept words is the file's, and the file's FAT is made of them
abbrev pub KeptWordsMakeTheFat : Type 0
KeptWordsMakeTheFat = (validation : Validation) (version : Version) (bytes list own fat kept : List ℕ) (n : ℕ)
    → sector_count version bytes ≡ n → AcceptsFatWords validation n version bytes list kept
    → (AcceptsFat validation n kept list own fat → IsFat version bytes list own fat × IfStrict validation (IsStrictFat version bytes list own))
    × (IsFat version bytes list own fat → IfStrict validation (IsStrictFat version bytes list own) → AcceptsFat validation n kept list own fat)

-- a file with whole FAT sectors and a FAT has words to keep
abbrev pub FatsWordsAreKept : Type 0
FatsWordsAreKept = (validation : Validation) (version : Version) (bytes list own fat : List ℕ) (n : ℕ)
    → sector_count version bytes ≡ n → list_all (is_whole_sector version bytes) list ≡ true
    → IsFat version bytes list own fat → IfStrict validation (IsStrictFat version bytes list own)
    → AcceptsFatWords validation n version bytes list (raw_fat version bytes list)

-- and of those it is told whether they point past the file
abbrev pub KeptWordsPointIntoFile : Type 0
KeptWordsPointIntoFile = (validation : Validation) (bytes kept : List ℕ) (r : Reading) (n : ℕ)
    → sector_count r.header.version bytes ≡ n → AcceptsFatWords validation n r.header.version bytes r.fat_sectors kept
    → PointsInto n kept r.fat_sectors r.difat_sectors ↔ PointsIntoFile bytes r
