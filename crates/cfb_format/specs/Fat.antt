-- The DIFAT (MS-CFB 2.5) and the FAT (MS-CFB 2.3).
use Rattle.std.specs.Prelude.{ℕ, ◌-◌, ◌≡◌, max, List, [], ◌∷◌, ◌++◌, Bool, true, false, not, ◌||◌, ◌&&◌, length, take, drop, map, filter, flat_map, slice_index, slice_index_or, nat_eq, nat_le, if◌then◌else◌, ◌==◌}
use Rattle.std.specs.List.{list_all, IsDistinct, list_any, range_with_len, suffix_len}
use Rattle.cfb_format.specs.declared.version.Version.{Version}
use Rattle.cfb_format.specs.Bytes.{sector_words, sector_count, words_per_sector, is_whole_sector, points_below, is_regular, is_regular_or_free, end_of_chain, free_sector, fat_sector, difat_sector, invalid_sector}
use Rattle.cfb_format.specs.declared.header.Header.{Header}
use Rattle.cfb_format.specs.Header.{header_difat_len}

-- the list without the run at its end that passes the test
abbrev pub without_end : {X : Type 0} → (X → Bool) → List X → List X
without_end p xs = take (length xs - suffix_len p xs) xs

-- the number stands in the list
abbrev pub is_among : List ℕ → ℕ → Bool
is_among list i = list_any (λ k. k == i) list

-- ---- the DIFAT

-- what a DIFAT sector lists (MS-CFB 2.5)
abbrev pub difat_entries : Version → List ℕ → ℕ → List ℕ
difat_entries version bytes i = take (words_per_sector version - 1) (sector_words version bytes i)

-- the DIFAT sector that comes after one (MS-CFB 2.5)
abbrev pub next_difat : Version → List ℕ → ℕ → ℕ
next_difat version bytes i = slice_index (sector_words version bytes i) (words_per_sector version - 1)

-- no DIFAT sector comes after this word
abbrev pub ends_difat : ℕ → Bool
ends_difat word = word == end_of_chain || word == free_sector

-- from s, each DIFAT sector is whole, lists numbers and FREE alone, and names the next one
abbrev pub FollowsDifat : Version → List ℕ → ℕ → List ℕ → Type 0
FollowsDifat version bytes s [] = ends_difat s ≡ true
FollowsDifat version bytes s (i ∷ own) = (s ≡ i) × (ends_difat s ≡ false)
    × (is_whole_sector version bytes i ≡ true)
    × (list_all is_regular_or_free (difat_entries version bytes i) ≡ true)
    × FollowsDifat version bytes (next_difat version bytes i) own

-- all entries of the DIFAT, in order
abbrev pub all_difat_entries : Header → List ℕ → List ℕ → List ℕ
all_difat_entries h bytes own = h.initial_difat_entries ++ flat_map (difat_entries h.version bytes) own

-- without the zeros at the end that pad it, but not below the header's places and count
abbrev pub without_padding : Header → List ℕ → List ℕ
without_padding h entries = take (max (max header_difat_len h.num_fat_sectors) (length entries - suffix_len (λ word. word == 0) entries)) entries

-- list is the FAT sectors in order, own the DIFAT sectors in order
pub record IsDifat (bytes : List ℕ) (h : Header) (list own : List ℕ) : Type 0 where
  pub sectors : FollowsDifat h.version bytes h.first_difat_sector own
  pub distinct : IsDistinct nat_eq own
  pub entries : list ≡ without_end (λ word. word == free_sector) (without_padding h (all_difat_entries h bytes own))
  pub in_file : list_all (is_whole_sector h.version bytes) list ≡ true

-- strict opening also wants the DIFAT to end at END, no padding by zeros, and the header's two counts to be right
pub record IsStrictDifat (bytes : List ℕ) (h : Header) (list own : List ℕ) : Type 0 where
  pub ended : list_all (λ i. not (next_difat h.version bytes i == free_sector)) own ≡ true
  pub unpadded : length (without_padding h (all_difat_entries h bytes own)) ≡ length (all_difat_entries h bytes own)
  pub fat_count : h.num_fat_sectors ≡ length list
  pub difat_count : h.num_difat_sectors ≡ length own

-- ---- the FAT

-- the words of the FAT sectors
abbrev pub fat_words : Version → List ℕ → List ℕ → List ℕ
fat_words version bytes list = flat_map (sector_words version bytes) list

-- the words at places that are sectors, as they stand in the file (MS-CFB 2.3)
abbrev pub raw_fat : Version → List ℕ → List ℕ → List ℕ
raw_fat version bytes list = take (sector_count version bytes) (fat_words version bytes list)

-- the words past the last sector (MS-CFB 2.3)
abbrev pub fat_padding : Version → List ℕ → List ℕ → List ℕ
fat_padding version bytes list = drop (sector_count version bytes) (fat_words version bytes list)

-- a pointer past the last of n sectors ends the chain there
abbrev pub ended_past_file : ℕ → ℕ → ℕ
ended_past_file n word = if is_regular word && nat_le n word then end_of_chain else word

-- the value of sector i: listed FAT and DIFAT sectors count as such, and a sector that the FAT doesn't cover is free
abbrev pub fat_value : ℕ → List ℕ → List ℕ → List ℕ → ℕ → ℕ
fat_value n list own raw i =
    if is_among list i then fat_sector
    else if is_among own i then difat_sector
    else ended_past_file n (slice_index_or raw i free_sector)

-- the FAT as it is read, a value for each sector of the file
unfoldable pub fat_of : Version → List ℕ → List ℕ → List ℕ → List ℕ
fat_of version bytes list own = map (fat_value (sector_count version bytes) list own (raw_fat version bytes list))
    (range_with_len 0 (sector_count version bytes))

-- what may stand in the FAT past the last sector
abbrev pub is_fat_padding : ℕ → Bool
is_fat_padding word = (word == 0 || word == free_sector) || (word == fat_sector || word == difat_sector)

-- no pointer of a table stands twice
abbrev pub HasDistinctPointers : List ℕ → Type 0
HasDistinctPointers table = IsDistinct nat_eq (filter is_regular table)

-- fat is the FAT
pub record IsFat (version : Version) (bytes list own fat : List ℕ) : Type 0 where
  pub values : fat ≡ fat_of version bytes list own
  pub padding : list_all is_fat_padding (fat_padding version bytes list) ≡ true
  pub marks : list_all (λ value. not (value == invalid_sector)) fat ≡ true
  pub pointers : HasDistinctPointers fat

-- strict opening also wants FREE past the last sector, the sectors of both tables marked as such, and no pointer past the file
pub record IsStrictFat (version : Version) (bytes list own : List ℕ) : Type 0 where
  pub padding : list_all (λ word. word == free_sector) (fat_padding version bytes list) ≡ true
  pub fat_marks : list_all (λ i. slice_index_or (raw_fat version bytes list) i free_sector == fat_sector) list ≡ true
  pub difat_marks : list_all (λ i. slice_index_or (raw_fat version bytes list) i free_sector == difat_sector) own ≡ true
  pub pointers : list_all (points_below (sector_count version bytes)) (raw_fat version bytes list) ≡ true
