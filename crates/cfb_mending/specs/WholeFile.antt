-- A file that was cut short: all that is read otherwise, and up to where (MS-CFB 2.2 to 2.6).
use Rattle.std.specs.Prelude.{ℕ, ◌/◌, ◌≡◌, min, max, List, ◌++◌, length, Some}
use Rattle.cfb_format.specs.declared.version.Version.{Version}
use Rattle.cfb_format.specs.Bytes.{sector_count, word_at}
use Rattle.cfb_format.specs.Header.{HasFixedFields}
use Rattle.cfb_mending.specs.declared.patches.Patch.{Patch}
use Rattle.cfb_mending.specs.Listing.{difat_patches, fat_sectors}
use Rattle.cfb_mending.specs.Missing.{chain_from, chain_patches, cut_end, cut_patches, difat_from, fat_patches, first_difat_link, known_of, lost_links, mini_patches, mini_stream_len, used_words}
use Rattle.cfb_mending.specs.Tables.{directory_start, minifat_start}

-- the sectors of the directory or the MiniFAT in a file of n sectors, up to the first that is missing
abbrev pub chain_of : Version → List ℕ → ℕ → List ℕ → ℕ → List ℕ
chain_of version bytes n fat start = chain_from version bytes fat (known_of version n fat) n (Some start)

abbrev pub chain_ends : Version → List ℕ → ℕ → List ℕ → ℕ → List Patch
chain_ends version bytes n fat start = chain_patches version bytes fat (known_of version n fat) n (Some start)

-- there are so many mini sectors
abbrev pub mini_count : Version → List ℕ → List ℕ → List ℕ → ℕ
mini_count version bytes directory minifat = min (used_words version bytes minifat (length minifat)) (mini_stream_len version bytes directory / 64)

-- what is read otherwise in a file of so many bytes and n sectors, in the order in which it is found
abbrev pub tables_patches : Version → List ℕ → ℕ → ℕ → List ℕ → List ℕ → List ℕ → List Patch
tables_patches version bytes len n fat directory minifat =
    fat_patches version bytes (known_of version n fat) fat n
    ++ (chain_ends version bytes n fat directory_start ++ (lost_links version bytes directory ++ (cut_patches len (cut_end version len directory)
    ++ (chain_ends version bytes n fat minifat_start ++ mini_patches version bytes minifat (mini_count version bytes directory minifat)))))

-- up to where it is read: to the end of the table's sector that its own end cuts
abbrev pub least_len : Version → List ℕ → ℕ → ℕ → List ℕ → List ℕ → List ℕ → ℕ
least_len version bytes len n fat directory minifat =
    max (max (max (cut_end version len fat) (cut_end version len directory)) (cut_end version len minifat)) (cut_end version len (difat_from version bytes n first_difat_link))

-- the file is mended by these patches up to this length, and so many links of objects lead to none
pub record MendsAll (bytes : List ℕ) (patches : List Patch) (least lost : ℕ) : Type 0 where
  pub version : Version
  pub fixed : HasFixedFields bytes version
  pub fat : List ℕ
  pub directory : List ℕ
  pub minifat : List ℕ
  pub fat_is : fat ≡ fat_sectors version bytes (sector_count version bytes) (word_at bytes 44)
  pub directory_is : directory ≡ chain_of version bytes (sector_count version bytes) fat directory_start
  pub minifat_is : minifat ≡ chain_of version bytes (sector_count version bytes) fat minifat_start
  pub patched : patches ≡ difat_patches version bytes (sector_count version bytes) ++ tables_patches version bytes (length bytes) (sector_count version bytes) fat directory minifat
  pub padded : least ≡ least_len version bytes (length bytes) (sector_count version bytes) fat directory minifat
  pub counted : lost ≡ length (lost_links version bytes directory)
