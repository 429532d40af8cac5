-- The header (MS-CFB 2.2).
use Rattle.std.specs.Prelude.{◌<◌, ◌^◌, ℕ, ◌-◌, ◌≡◌, ◌≢◌, List, [], ◌∷◌, ◌++◌, length, take, drop, replicate, if◌then◌else◌, ◌==◌, ⊤, true}
use Rattle.std.specs.List.{list_all, before_first, AllByRecursion}
use Rattle.cfb_format.specs.declared.header.Header.{Header}
use Rattle.cfb_format.specs.declared.version.Version.{Version}
use Rattle.cfb_format.specs.declared.version.Version.TheVariants.{V3, V4}
use Rattle.cfb_format.specs.declared.validate.Validation.{Validation}
use Rattle.cfb_format.specs.declared.validate.Validation.TheVariants.{Permissive, Strict}
use Rattle.cfb_format.specs.Bytes.{unit_at, word_at, words, word_bytes, unit_bytes, version_number, sector_shift, end_of_chain, free_sector, is_regular}

-- the header signature (MS-CFB 2.2)
abbrev pub magic_number : List ℕ
magic_number = 0xD0 ∷ 0xCF ∷ 0x11 ∷ 0xE0 ∷ 0xA1 ∷ 0xB1 ∷ 0x1A ∷ 0xE1 ∷ []

-- how many entries of the DIFAT stand in the header
abbrev pub header_difat_len : ℕ
header_difat_len = 109

-- in version 3 no number of directory sectors is kept
abbrev pub dir_sectors_of : Version → ℕ → ℕ
dir_sectors_of V3 word = 0
dir_sectors_of V4 word = word

-- a FREE in place of the first DIFAT sector says that there is none
abbrev pub first_difat_of : ℕ → ℕ
first_difat_of word = if word == free_sector then end_of_chain else word

-- the entries before the first FREE, and FREE in all places after them
abbrev pub entries_before_free : List ℕ → List ℕ
entries_before_free entries = before_first (λ word. word == free_sector) entries

-- with FREE in the places that are left
abbrev pub padded_difat : List ℕ → List ℕ
padded_difat entries = entries ++ replicate (header_difat_len - length entries) free_sector

-- the entries of the header that count (MS-CFB 2.5)
abbrev pub stored_difat : List ℕ → List ℕ
stored_difat bytes = entries_before_free (words header_difat_len (drop 76 bytes))

-- the fields whose value a version fixes are as it wants them; reserved bytes, minor version and signature are not looked at
pub record HasFixedFields (bytes : List ℕ) (version : Version) : Type 0 where
  pub magic : take 8 bytes ≡ magic_number
  pub major_version : unit_at bytes 26 ≡ version_number version
  pub byte_order : unit_at bytes 28 ≡ 0xFFFE
  pub shift : unit_at bytes 30 ≡ sector_shift version
  pub mini_shift : unit_at bytes 32 ≡ 6
  pub mini_stream_cutoff : word_at bytes 56 ≡ 4096

-- h is the header that the first 512 bytes hold
pub record IsHeader (bytes : List ℕ) (h : Header) : Type 0 where
  pub fixed : HasFixedFields bytes h.version
  pub num_dir_sectors : h.num_dir_sectors ≡ dir_sectors_of h.version (word_at bytes 40)
  pub num_fat_sectors : h.num_fat_sectors ≡ word_at bytes 44
  pub first_dir_sector : h.first_dir_sector ≡ word_at bytes 48
  pub first_minifat_sector : h.first_minifat_sector ≡ word_at bytes 60
  pub num_minifat_sectors : h.num_minifat_sectors ≡ word_at bytes 64
  pub first_difat_sector : h.first_difat_sector ≡ first_difat_of (word_at bytes 68)
  pub num_difat_sectors : h.num_difat_sectors ≡ word_at bytes 72
  pub difat : h.initial_difat_entries ≡ padded_difat (stored_difat bytes)
  pub difat_entries : list_all is_regular (stored_difat bytes) ≡ true

-- strict opening also wants version 3's number of directory sectors to be 0
abbrev pub IsStrictDirCount : Version → ℕ → Type 0
IsStrictDirCount V3 word = word ≡ 0
IsStrictDirCount V4 word = ⊤

-- the same of the bytes of a header
abbrev pub IsStrictHeader : Version → List ℕ → Type 0
IsStrictHeader version bytes = IsStrictDirCount version (word_at bytes 40)

-- a demand that only strict opening makes
abbrev pub IfStrict : Validation → Type 0 → Type 0
IfStrict Permissive demand = ⊤
IfStrict Strict demand = demand

-- opening in this mode takes the first 512 bytes for this header
pub record AcceptsHeader (validation : Validation) (bytes : List ℕ) (h : Header) : Type 0 where
  pub header : IsHeader bytes h
  pub strict : IfStrict validation (IsStrictHeader h.version bytes)

-- ---- writing

-- a header that is read back as it was written
pub record IsValidHeader (h : Header) : Type 0 where
  pub num_dir_sectors : h.num_dir_sectors ≡ dir_sectors_of h.version h.num_dir_sectors
  pub first_difat_sector : h.first_difat_sector ≢ free_sector
  pub len : length h.initial_difat_entries ≡ header_difat_len
  pub padded : h.initial_difat_entries ≡ padded_difat (entries_before_free h.initial_difat_entries)
  pub difat_entries : list_all is_regular (entries_before_free h.initial_difat_entries) ≡ true

-- its fields are 32 bits wide
pub record HeaderFits (h : Header) : Type 0 where
  pub num_dir_sectors : h.num_dir_sectors < 2 ^ 32
  pub num_fat_sectors : h.num_fat_sectors < 2 ^ 32
  pub first_dir_sector : h.first_dir_sector < 2 ^ 32
  pub first_minifat_sector : h.first_minifat_sector < 2 ^ 32
  pub num_minifat_sectors : h.num_minifat_sectors < 2 ^ 32
  pub first_difat_sector : h.first_difat_sector < 2 ^ 32
  pub num_difat_sectors : h.num_difat_sectors < 2 ^ 32
  pub initial_difat_entries : AllByRecursion (λ word. word < 2 ^ 32) h.initial_difat_entries

-- minor version, version, byte order and the two shifts
abbrev pub header_units : Version → List ℕ
header_units version = 0x3E ∷ version_number version ∷ 0xFFFE ∷ sector_shift version ∷ 6 ∷ []

-- the words from byte 40 up to the DIFAT: no transaction has signed it
abbrev pub header_words : Header → List ℕ
header_words h = h.num_dir_sectors ∷ h.num_fat_sectors ∷ h.first_dir_sector ∷ 0 ∷ 4096
    ∷ h.first_minifat_sector ∷ h.num_minifat_sectors ∷ h.first_difat_sector ∷ h.num_difat_sectors ∷ []

-- the 512 bytes of a header
unfoldable pub header_bytes : Header → List ℕ
header_bytes h = magic_number ++ replicate 16 0 ++ unit_bytes (header_units h.version) ++ replicate 6 0
    ++ word_bytes (header_words h) ++ word_bytes h.initial_difat_entries
