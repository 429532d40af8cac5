-- The words of the FAT as they stand in a file (MS-CFB 2.3).
use Rattle.std.specs.Prelude.{ℕ, ◌≡◌, List, length, take, true}
use Rattle.std.specs.List.{list_all}
use Rattle.cfb_format.specs.Bytes.{is_whole_sector}
use Rattle.cfb_format.specs.Fat.{fat_words}
use Rattle.cfb_alloc.specs.Alloc.{AllocatorState, IsMeasured}

-- those of the sectors that memory keeps values of
abbrev pub raw_words : AllocatorState → List ℕ
raw_words a = take (length a.tables.fat) (fat_words a.tables.version a.file.bytes a.tables.fat_sectors)

-- the file has all of each FAT sector
pub record HasFatSectors (a : AllocatorState) : Type 0 where
  pub measured : IsMeasured a.file
  pub whole : list_all (is_whole_sector a.tables.version a.file.bytes) a.tables.fat_sectors ≡ true
