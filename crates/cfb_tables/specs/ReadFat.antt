-- The FAT as it is read out of the words of the FAT sectors (MS-CFB 2.3).
use Rattle.std.specs.Prelude.{ℕ, ◌≡◌, List, Bool, true, not, ◌==◌, take, drop, map, slice_index_or}
use Rattle.std.specs.List.{list_all, range_with_len}
use Rattle.cfb_format.specs.declared.validate.Validation.{Validation}
use Rattle.cfb_format.specs.declared.validate.Validation.TheVariants.{Permissive, Strict}
use Rattle.cfb_format.specs.declared.version.Version.{Version}
use Rattle.cfb_format.specs.Bytes.{sector_count, points_below, free_sector, fat_sector, difat_sector, invalid_sector}
use Rattle.cfb_format.specs.Fat.{fat_words, fat_value, is_fat_padding, HasDistinctPointers, IsFat, IsStrictFat}
use Rattle.cfb_format.specs.Header.{IfStrict}

-- a value for each of n sectors; list is the FAT sectors, own the DIFAT sectors
abbrev pub fat_of_words : ℕ → List ℕ → List ℕ → List ℕ → List ℕ
fat_of_words n words list own = map (fat_value n list own (take n words)) (range_with_len 0 n)

-- what may stand past the last sector: strict opening wants FREE there
abbrev pub is_padding_in : Validation → ℕ → Bool
is_padding_in Permissive word = is_fat_padding word
is_padding_in Strict word = word == free_sector

-- what strict opening also wants of the words at places that are sectors: the sectors of both tables are marked as such, and
-- no pointer goes past the file
pub record HasStrictWords (n : ℕ) (raw list own : List ℕ) : Type 0 where
  pub fat_marks : list_all (λ i. slice_index_or raw i free_sector == fat_sector) list ≡ true
  pub difat_marks : list_all (λ i. slice_index_or raw i free_sector == difat_sector) own ≡ true
  pub pointers : list_all (points_below n) raw ≡ true

-- no value is the mark that is refused, and no sector is pointed to twice
pub record HasValidValues (fat : List ℕ) : Type 0 where
  pub marks : list_all (λ value. not (value == invalid_sector)) fat ≡ true
  pub pointers : HasDistinctPointers fat

-- opening in this mode reads this FAT of n sectors
pub record AcceptsFat (validation : Validation) (n : ℕ) (words list own fat : List ℕ) : Type 0 where
  pub values : fat ≡ fat_of_words n words list own
  pub padding : list_all (is_padding_in validation) (drop n words) ≡ true
  pub strict : IfStrict validation (HasStrictWords n (take n words) list own)
  pub valid : HasValidValues fat

-- it reads none
abbrev pub AcceptsNoFat : Validation → ℕ → List ℕ → List ℕ → List ℕ → Type 0
AcceptsNoFat validation n words list own = (fat : List ℕ) → AcceptsFat validation n words list own fat → ⊥

-- ---- laws

-- the words of a file's FAT sectors make up the file's FAT
abbrev pub ReadIsTheFilesFat : Type 0
ReadIsTheFilesFat = (validation : Validation) (version : Version) (bytes list own fat words : List ℕ) (n : ℕ)
    → sector_count version bytes ≡ n → words ≡ fat_words version bytes list → AcceptsFat validation n words list own fat
    → IsFat version bytes list own fat × IfStrict validation (IsStrictFat version bytes list own)

abbrev pub FilesFatIsRead : Type 0
FilesFatIsRead = (validation : Validation) (version : Version) (bytes list own fat words : List ℕ) (n : ℕ)
    → sector_count version bytes ≡ n → words ≡ fat_words version bytes list → IsFat version bytes list own fat
    → IfStrict validation (IsStrictFat version bytes list own) → AcceptsFat validation n words list own fat
