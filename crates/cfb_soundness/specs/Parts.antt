-- The parts of a file that its soundness hangs on.
use Rattle.std.specs.Prelude.{ℕ, ◌≡◌, ◌↔◌, List, [], ◌++◌, length, map, IsTrue}
use Rattle.cfb_format.specs.declared.version.Version.{Version}
use Rattle.cfb_format.specs.declared.header.Header.{Header}
use Rattle.cfb_codecs.specs.EntryModel.{entry_of}
use Rattle.cfb_format.specs.Reading.{Reading, no_more}
use Rattle.cfb_format.specs.Soundness.{streams, PointsIntoFile}
use Rattle.cfb_soundness.specs.declared.parts.Parts.{Parts}

-- the parts are those of a file with these bytes
pub record AreParts {A : Type 0} (parts : Parts A) (bytes : List ℕ) (r : Reading) : Type 0 where
  pub len : parts.len ≡ length bytes
  pub version : parts.version ≡ r.header.version
  pub fat_sectors : parts.fat_sectors.now ≡ r.fat_sectors
  pub difat_sectors : parts.difat_sectors.now ≡ r.difat_sectors
  pub fat : parts.fat.now ≡ r.fat
  pub directory : parts.directory.now ≡ r.directory
  pub entries : map entry_of parts.entries.now ≡ r.entries
  pub streams : parts.streams.now ≡ streams r
  pub minifat_sectors : parts.minifat_sectors.now ≡ r.minifat_sectors
  pub minifat : parts.minifat.now ≡ r.minifat
  pub points_into_file : IsTrue parts.points_into_file ↔ PointsIntoFile bytes r

-- a header of this version
abbrev pub header_of : Version → Header
header_of version = record {
  version = version;
  num_dir_sectors = 0;
  num_fat_sectors = 0;
  first_dir_sector = 0;
  first_minifat_sector = 0;
  num_minifat_sectors = 0;
  first_difat_sector = 0;
  num_difat_sectors = 0;
  initial_difat_entries = [];
}

-- a reading with these parts; soundness sees of the header only its version, and of the outline only its streams
abbrev pub parts_reading : {A : Type 0} → Parts A → Reading
parts_reading parts = record {
  header = header_of parts.version;
  fat_sectors = parts.fat_sectors.now;
  difat_sectors = parts.difat_sectors.now;
  fat = parts.fat.now;
  directory = parts.directory.now;
  entries = map entry_of parts.entries.now;
  outline = no_more;
  minifat_sectors = parts.minifat_sectors.now;
  minifat = parts.minifat.now;
}

-- the sectors that hold the tables and the directory
abbrev pub tables_and_directory : Reading → List ℕ
tables_and_directory r = r.fat_sectors ++ r.difat_sectors ++ r.directory ++ r.minifat_sectors
