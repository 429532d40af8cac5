-- The parts of a file, and which bytes have them: what opening accepts (MS-CFB 2.2 to 2.6).
use Rattle.std.specs.Prelude.{ℕ, ◌*◌, ◌/◌, ◌%◌, ◌≡◌, ◌≢◌, ◌≤◌, List, [], ◌∷◌, ◌++◌, true, length, take, flat_map, nat_eq, ◌==◌, ⊤}
use Rattle.std.specs.List.{list_all, AllZip, IsDistinct}
use Rattle.cfb_format.specs.declared.version.Version.{Version}
use Rattle.cfb_format.specs.declared.version.Version.TheVariants.{V3, V4}
use Rattle.cfb_format.specs.declared.objtype.ObjType.TheVariants.{Storage, Stream, Root}
use Rattle.cfb_format.specs.Bytes.{sector_len, sector_words, is_whole_sector, points_below, free_sector}
use Rattle.cfb_format.specs.declared.header.Header.{Header}
use Rattle.cfb_format.specs.Header.{IsHeader, IsStrictHeader}
use Rattle.cfb_format.specs.Fat.{IsDifat, IsStrictDifat, IsFat, IsStrictFat, HasDistinctPointers, without_end}
use Rattle.cfb_format.specs.Chain.{IsChain}
use Rattle.cfb_format.specs.Names.{Cases}
use Rattle.cfb_format.specs.DirectoryEntry.{Entry, IsEntry, IsStrictEntry, slots}
use Rattle.cfb_format.specs.Siblings.{entry_at, is_red_apart, Below}

-- ---- the entries that are reached

-- the numbers of the entries of a storage, in name order: a storage with its own ones, or a stream, and then the rest
pub data Outline : Type 0 where
  no_more : Outline
  storage_at : ℕ → Outline → Outline → Outline
  stream_at : ℕ → Outline → Outline

-- the siblings of the first level
abbrev pub siblings : Outline → List ℕ
siblings no_more = []
siblings (storage_at i inside rest) = i ∷ siblings rest
siblings (stream_at i rest) = i ∷ siblings rest

-- all numbers, a storage before what is in it
abbrev pub numbers : Outline → List ℕ
numbers no_more = []
numbers (storage_at i inside rest) = i ∷ numbers inside ++ numbers rest
numbers (stream_at i rest) = i ∷ numbers rest

-- the streams alone
abbrev pub stream_numbers : Outline → List ℕ
stream_numbers no_more = []
stream_numbers (storage_at i inside rest) = stream_numbers inside ++ stream_numbers rest
stream_numbers (stream_at i rest) = i ∷ stream_numbers rest

-- each of these entries is what the outline says, and what is in a storage is what hangs at its child
abbrev pub HasContents : Cases → List Entry → Outline → Type 0
HasContents cases entries no_more = ⊤
HasContents cases entries (storage_at i inside rest) = ((entry_at entries i).obj_type ≡ Storage)
    × Below cases entries (entry_at entries i).child (siblings inside)
    × HasContents cases entries inside × HasContents cases entries rest
HasContents cases entries (stream_at i rest) = ((entry_at entries i).obj_type ≡ Stream) × HasContents cases entries rest

-- entry 0 is the root, its length is whole mini sectors, and what is reached from it is reached once
pub record IsOutline (cases : Cases) (entries : List Entry) (outline : Outline) : Type 0 where
  pub root : (entry_at entries 0).obj_type ≡ Root
  pub root_len : (entry_at entries 0).stream_len % 64 ≡ 0
  pub children : Below cases entries (entry_at entries 0).child (siblings outline)
  pub contents : HasContents cases entries outline
  pub distinct : IsDistinct nat_eq (0 ∷ numbers outline)

-- ---- the file

-- the parts of a file (MS-CFB 2.2 to 2.6)
pub record Reading : Type 0 where
  pub header : Header
  -- the FAT sectors and the DIFAT sectors, in order
  pub fat_sectors : List ℕ
  pub difat_sectors : List ℕ
  -- the value of each sector
  pub fat : List ℕ
  -- the directory's sectors and its entries
  pub directory : List ℕ
  pub entries : List Entry
  pub outline : Outline
  -- the MiniFAT's sectors and the value of each mini sector
  pub minifat_sectors : List ℕ
  pub minifat : List ℕ

-- the root is entry 0 (MS-CFB 2.6.2)
abbrev pub root_entry : Reading → Entry
root_entry r = entry_at r.entries 0

-- the file is neither too short nor too long to be one of this version
pub record HasLength (version : Version) (bytes : List ℕ) : Type 0 where
  pub header : 512 ≤ length bytes
  pub sector : sector_len version ≤ length bytes
  pub most : length bytes ≤ 0xFFFF_FFFB * sector_len version

-- the directory is a chain of at least one whole sector, and each slot of it is read
pub record IsDirectory (version : Version) (bytes : List ℕ) (fat : List ℕ) (first : ℕ) (directory : List ℕ) (entries : List Entry) : Type 0 where
  pub chain : IsChain fat first directory
  pub some : directory ≢ []
  pub whole : list_all (is_whole_sector version bytes) directory ≡ true
  pub most : length (slots version bytes directory) ≤ 0xFFFF_FFFB
  pub slots : AllZip (IsEntry version) (slots version bytes directory) entries

-- the words of the MiniFAT's sectors, without the FREE ones at the end
abbrev pub minifat_words : Version → List ℕ → List ℕ → List ℕ
minifat_words version bytes sectors = without_end (λ word. word == free_sector) (flat_map (sector_words version bytes) sectors)

-- the MiniFAT is those words, as far as the mini stream has room for mini sectors
pub record IsMinifat (version : Version) (bytes : List ℕ) (fat : List ℕ) (first root_len : ℕ) (sectors minifat : List ℕ) : Type 0 where
  pub chain : IsChain fat first sectors
  pub whole : list_all (is_whole_sector version bytes) sectors ≡ true
  pub values : minifat ≡ take (root_len / 64) (minifat_words version bytes sectors)
  pub in_range : list_all (points_below (length minifat)) minifat ≡ true
  pub pointers : HasDistinctPointers minifat

-- opening accepts the bytes, and these are their parts
pub record Reads (cases : Cases) (bytes : List ℕ) (r : Reading) : Type 0 where
  pub header : IsHeader bytes r.header
  pub len : HasLength r.header.version bytes
  pub difat : IsDifat bytes r.header r.fat_sectors r.difat_sectors
  pub fat : IsFat r.header.version bytes r.fat_sectors r.difat_sectors r.fat
  pub directory : IsDirectory r.header.version bytes r.fat r.header.first_dir_sector r.directory r.entries
  pub outline : IsOutline cases r.entries r.outline
  pub minifat : IsMinifat r.header.version bytes r.fat r.header.first_minifat_sector (root_entry r).stream_len r.minifat_sectors r.minifat

-- the bytes are a compound file, and so much holds of its parts
pub record HasReading (cases : Cases) (bytes : List ℕ) (holds_of : Reading → Type 0) : Type 0 where
  pub reading : Reading
  pub reads : Reads cases bytes reading
  pub holds : holds_of reading

-- ---- strict opening

-- in version 4 the header counts the directory's sectors
abbrev pub IsStrictCount : Version → ℕ → ℕ → Type 0
IsStrictCount V3 count found = ⊤
IsStrictCount V4 count found = found ≤ count

-- strict opening accepts them too
pub record IsStrict (bytes : List ℕ) (r : Reading) : Type 0 where
  pub header : IsStrictHeader r.header.version bytes
  pub difat : IsStrictDifat bytes r.header r.fat_sectors r.difat_sectors
  pub fat : IsStrictFat r.header.version bytes r.fat_sectors r.difat_sectors
  pub directory_count : IsStrictCount r.header.version r.header.num_dir_sectors (length r.directory)
  pub entries : AllZip (IsStrictEntry r.header.version) (slots r.header.version bytes r.directory) r.entries
  pub red_apart : list_all (is_red_apart r.entries) (numbers r.outline) ≡ true
  pub minifat_len : length (minifat_words r.header.version bytes r.minifat_sectors) ≤ (root_entry r).stream_len / 64
  pub minifat_count : r.header.num_minifat_sectors ≡ length r.minifat_sectors

-- the bytes are a compound file that strict opening accepts
abbrev pub IsStrictFile : Cases → List ℕ → Type 0
IsStrictFile cases bytes = HasReading cases bytes (IsStrict bytes)
