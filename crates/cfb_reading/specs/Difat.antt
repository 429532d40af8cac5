-- The sectors of both tables, as they are read (MS-CFB 2.5).
use Rattle.std.specs.Prelude.{ℕ, ◌≡◌, ◌+◌, List, Bool, true, length, nat_eq, nat_le, not, ◌==◌}
use Rattle.std.specs.List.{IsDistinct, list_all}
use Rattle.cfb_format.specs.declared.validate.Validation.{Validation}
use Rattle.cfb_format.specs.declared.version.Version.{Version}
use Rattle.cfb_format.specs.declared.header.Header.{Header}
use Rattle.cfb_format.specs.Bytes.{sector_len, sector_start, is_regular_or_free, free_sector}
use Rattle.cfb_format.specs.Fat.{FollowsDifat, IsDifat, IsStrictDifat, next_difat, without_end, without_padding}
use Rattle.cfb_format.specs.Header.{IfStrict}
use Rattle.cfb_sectors.specs.Sectors.{SectorFile}

-- opening in this mode reads these FAT sectors and these DIFAT sectors
pub record AcceptsDifat (validation : Validation) (bytes : List ℕ) (h : Header) (list own : List ℕ) : Type 0 where
  pub difat : IsDifat bytes h list own
  pub strict : IfStrict validation (IsStrictDifat bytes h list own)

-- it reads none
abbrev pub AcceptsNoDifat : Validation → List ℕ → Header → Type 0
AcceptsNoDifat validation bytes h = (list own : List ℕ) → AcceptsDifat validation bytes h list own → ⊥

-- all of this sector is known to be there
abbrev pub has_sector : SectorFile → ℕ → Bool
has_sector file i = nat_le (sector_start file.version i + sector_len file.version) file.len

-- ---- the DIFAT sectors

-- what strict opening lets a DIFAT sector name next: END ends the DIFAT, and not FREE
abbrev pub is_strict_next : ℕ → Bool
is_strict_next word = not (word == free_sector)

-- a DIFAT sector may list these entries and name this one next, as this mode wants it
pub record AreDifatWords (validation : Validation) (entries : List ℕ) (next : ℕ) : Type 0 where
  pub numbers : list_all is_regular_or_free entries ≡ true
  pub ended : IfStrict validation (is_strict_next next ≡ true)

-- from the first on, these are the DIFAT sectors that opening in this mode reads
pub record AcceptsDifatSectors (validation : Validation) (version : Version) (bytes : List ℕ) (first : ℕ) (own : List ℕ) : Type 0 where
  pub sectors : FollowsDifat version bytes first own
  pub distinct : IsDistinct nat_eq own
  pub ended : IfStrict validation (list_all (λ i. is_strict_next (next_difat version bytes i)) own ≡ true)

-- it reads none
abbrev pub AcceptsNoDifatSectors : Validation → Version → List ℕ → ℕ → Type 0
AcceptsNoDifatSectors validation version bytes first = (own : List ℕ) → AcceptsDifatSectors validation version bytes first own → ⊥

-- ---- what they list

-- the FAT sectors that all entries list
abbrev pub listed_sectors : Header → List ℕ → List ℕ
listed_sectors h entries = without_end (λ word. word == free_sector) (without_padding h entries)

-- strict opening wants no padding by zeros, and the header's two counts to be right
pub record HasRightCounts (h : Header) (entries own : List ℕ) : Type 0 where
  pub unpadded : length (without_padding h entries) ≡ length entries
  pub fat_count : h.num_fat_sectors ≡ length (listed_sectors h entries)
  pub difat_count : h.num_difat_sectors ≡ length own
