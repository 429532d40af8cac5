-- The words of the FAT past the file's sectors, and how many sectors the tables of a file take.
use Rattle.std.specs.Prelude.{ℕ, ◌≡◌, ◌<◌, ◌≤◌, List, true, take, drop, length, Contains}
use Rattle.std.specs.List.{list_all}
use Rattle.cfb_format.specs.declared.validate.Validation.{Validation}
use Rattle.cfb_format.specs.declared.header.Header.{Header}
use Rattle.cfb_format.specs.Bytes.{sector_count}
use Rattle.cfb_format.specs.Fat.{IsDifat}
use Rattle.cfb_tables.specs.ReadFat.{AcceptsFat, is_padding_in}

-- ---- laws

-- the FAT is read out of the words of the file's sectors, and those past them are padding
abbrev pub PaddingIsApart : Type 0
PaddingIsApart = (validation : Validation) (n : ℕ) (words list own fat : List ℕ)
    → (AcceptsFat validation n words list own fat → AcceptsFat validation n (take n words) list own fat × (list_all (is_padding_in validation) (drop n words) ≡ true))
    × (AcceptsFat validation n (take n words) list own fat → list_all (is_padding_in validation) (drop n words) ≡ true → AcceptsFat validation n words list own fat)

-- the sectors of both tables are sectors of the file
abbrev pub TableSectorsAreInFile : Type 0
TableSectorsAreInFile = (bytes : List ℕ) (h : Header) (list own : List ℕ) → IsDifat bytes h list own
    → ((i : ℕ) → Contains list i → i < sector_count h.version bytes) × ((i : ℕ) → Contains own i → i < sector_count h.version bytes)

-- and there are no more DIFAT sectors than sectors
abbrev pub DifatSectorsAreFew : Type 0
DifatSectorsAreFew = (bytes : List ℕ) (h : Header) (list own : List ℕ) → IsDifat bytes h list own → length own ≤ sector_count h.version bytes
