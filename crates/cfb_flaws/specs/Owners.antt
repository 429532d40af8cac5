-- What sectors and mini sectors are used for, as code has it.
use Rattle.std.specs.Prelude.{ℕ, ◌≡◌, ◌<◌, List, Bool, true, false, ◌&&◌, length, slice_index_or, map, if◌then◌else◌, ◌==◌}
use Rattle.cfb_format.specs.Bytes.{free_sector}
use Rattle.cfb_format.specs.Reading.{Reading}
use Rattle.cfb_format.specs.Soundness.{Owner as OwnerOf, fat_table, difat_table, directory_of_file, minifat_table, mini_stream, one_stream, is_free, no_owner, streams}
use Rattle.cfb_codecs.specs.EntryModel.{entry_of}
use Rattle.cfb_soundness.specs.declared.parts.Parts.{Parts}
use Rattle.cfb_flaws.specs.declared.owner.Owner.{Owner}
use Rattle.cfb_flaws.specs.declared.owner.Owner.TheVariants.{Fat, Difat, Directory, Minifat, MiniStream, Stream, Free, Unused}

-- the owner in the format's words
abbrev pub meant : Owner → OwnerOf
meant Fat = fat_table
meant Difat = difat_table
meant Directory = directory_of_file
meant Minifat = minifat_table
meant MiniStream = mini_stream
meant (Stream k) = one_stream k
meant Free = is_free
meant Unused = no_owner

-- no list has claimed the sector
abbrev pub is_unused : Owner → Bool
is_unused Fat = false
is_unused Difat = false
is_unused Directory = false
is_unused Minifat = false
is_unused MiniStream = false
is_unused (Stream k) = false
is_unused Free = false
is_unused Unused = true

-- a chain of the FAT or of the MiniFAT has it
abbrev pub is_chained : Owner → Bool
is_chained Fat = false
is_chained Difat = false
is_chained Directory = true
is_chained Minifat = true
is_chained MiniStream = true
is_chained (Stream k) = true
is_chained Free = false
is_chained Unused = false

-- a list of the FAT or of the DIFAT has it
abbrev pub is_of_tables : Owner → Bool
is_of_tables Fat = true
is_of_tables Difat = true
is_of_tables Directory = false
is_of_tables Minifat = false
is_of_tables MiniStream = false
is_of_tables (Stream k) = false
is_of_tables Free = false
is_of_tables Unused = false

-- the owner of a number; past the end none has one
abbrev pub owner_at : List Owner → ℕ → Owner
owner_at owners i = slice_index_or owners i Unused

-- the parts are those that memory keeps of a file with these bytes
pub record AreKept {A : Type 0} (parts : Parts A) (bytes : List ℕ) (r : Reading) : Type 0 where
  pub len : parts.len ≡ length bytes
  pub version : parts.version ≡ r.header.version
  pub fat_sectors : parts.fat_sectors.now ≡ r.fat_sectors
  pub difat_sectors : parts.difat_sectors.now ≡ r.difat_sectors
  pub fat : parts.fat.now ≡ r.fat
  pub directory : parts.directory.now ≡ r.directory
  pub entries : map entry_of parts.entries.now ≡ r.entries
  pub streams : parts.streams.now ≡ streams r
  pub minifat_sectors : parts.minifat_sectors.now ≡ r.minifat_sectors
  pub minifat : parts.minifat.now ≡ r.minifat

-- for each number of the table this is its owner
pub record AreOwners (table : List ℕ) (owner : ℕ → OwnerOf) (owners : List Owner) : Type 0 where
  pub len : length owners ≡ length table
  pub each : (i : ℕ) → i < length table → meant (owner_at owners i) ≡ owner i
