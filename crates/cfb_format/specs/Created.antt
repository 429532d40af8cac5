-- The file that is made for a root without objects.
use Rattle.std.specs.Prelude.{ℕ, ◌-◌, List, [], ◌∷◌, ◌++◌, replicate}
use Rattle.std.specs.List.{repeat}
use Rattle.cfb_format.specs.declared.version.Version.{Version}
use Rattle.cfb_format.specs.declared.version.Version.TheVariants.{V3, V4}
use Rattle.cfb_format.specs.Bytes.{word_bytes, sector_len, words_per_sector, entries_per_sector, end_of_chain, free_sector, fat_sector}
use Rattle.cfb_format.specs.declared.header.Header.{Header}
use Rattle.cfb_format.specs.Header.{header_bytes, padded_difat}
use Rattle.cfb_format.specs.DirectoryEntry.{entry_bytes, empty_root_entry, unallocated_entry, nil_clsid}
use Rattle.cfb_format.specs.Reading.{Reading, no_more}
use Rattle.cfb_format.specs.Tree.{Tree, nothing}

-- version 4 counts the directory's sectors
abbrev pub created_directory_count : Version → ℕ
created_directory_count V3 = 0
created_directory_count V4 = 1

-- sector 0 is the FAT, sector 1 the directory
abbrev pub created_header : Version → Header
created_header version = record {
  version = version;
  num_dir_sectors = created_directory_count version;
  num_fat_sectors = 1;
  first_dir_sector = 1;
  first_minifat_sector = end_of_chain;
  num_minifat_sectors = 0;
  first_difat_sector = end_of_chain;
  num_difat_sectors = 0;
  initial_difat_entries = padded_difat (0 ∷ []);
}

-- the header, padded to a sector; the FAT; the root and unallocated entries
unfoldable pub created_bytes : Version → List ℕ
created_bytes version = header_bytes (created_header version) ++ replicate (sector_len version - 512) 0
    ++ word_bytes (fat_sector ∷ end_of_chain ∷ replicate (words_per_sector version - 2) free_sector)
    ++ entry_bytes empty_root_entry ++ repeat (entries_per_sector version - 1) (entry_bytes unallocated_entry)

-- its parts
abbrev pub created_reading : Version → Reading
created_reading version = record {
  header = created_header version;
  fat_sectors = 0 ∷ [];
  difat_sectors = [];
  fat = fat_sector ∷ end_of_chain ∷ [];
  directory = 1 ∷ [];
  entries = empty_root_entry ∷ replicate (entries_per_sector version - 1) unallocated_entry;
  outline = no_more;
  minifat_sectors = [];
  minifat = [];
}

-- the root alone
abbrev pub empty_tree : Tree
empty_tree = record { root = record { clsid = nil_clsid; state_bits = 0; created = 0; modified = 0 }; objects = nothing }
