-- What leads past the end of a file that was cut short, and what is read in its place (MS-CFB 2.2 to 2.6).
use Rattle.std.specs.Prelude.{ℕ, zero, suc, ◌+◌, ◌-◌, ◌*◌, ◌/◌, ◌%◌, ◌≡◌, min, List, [], ◌∷◌, ◌++◌, Bool, not, ◌&&◌, ◌||◌, ◌==◌, length, take, flat_map, slice_index, nat_le, nat_lt, Option, Some, None, if◌then◌else◌}
use Rattle.cfb_format.specs.declared.version.Version.{Version}
use Rattle.cfb_format.specs.declared.version.Version.TheVariants.{V3, V4}
use Rattle.cfb_format.specs.Bytes.{byte_at, word_at, sector_start, sector_len, words_per_sector, entries_per_sector, is_regular, points_below, end_of_chain, free_sector, no_stream}
use Rattle.cfb_format.specs.Medium.{part}
use Rattle.cfb_format.specs.Fat.{is_fat_padding}
use Rattle.cfb_mending.specs.declared.patches.Patch.{Patch}
use Rattle.cfb_mending.specs.Tables.{fat_place}

-- the file has all of the word at this place
abbrev pub has_word : List ℕ → ℕ → Bool
has_word bytes at = nat_le (at + 4) (length bytes)

-- a word that the file has names one of the first n sectors
abbrev pub leads_below : ℕ → List ℕ → ℕ → Bool
leads_below n bytes at = has_word bytes at && (is_regular (word_at bytes at) && nat_lt (word_at bytes at) n)

-- a word that the file has names a sector that is none of the first n
abbrev pub leads_past : ℕ → List ℕ → ℕ → Bool
leads_past n bytes at = has_word bytes at && not (points_below n (word_at bytes at))

-- of so many of n sectors a FAT of so many sectors has words
abbrev pub known_of : Version → ℕ → List ℕ → ℕ
known_of version n fat = min n (length fat * words_per_sector version)

-- ---- what is read of a file

-- so many bytes were read of a sector: the whole parts of some length that the file has of it
pub record Holds (size : ℕ) (version : Version) (bytes : List ℕ) (s : ℕ) (held : List ℕ) (len : ℕ) : Type 0 where
  pub count : len ≡ min (length bytes - sector_start version s) (sector_len version) - min (length bytes - sector_start version s) (sector_len version) % size
  pub same : take len held ≡ part bytes (sector_start version s) len

-- ---- words that are read as marks

-- the word at a place is read as this mark, if there is one
abbrev pub mark_at : ℕ → Option ℕ → List Patch
mark_at at None = []
mark_at at (Some word) = record { at = at; «end» = at + 4; word = word } ∷ []

-- the first so many words from a place on are read as these marks
unfoldable pub marked : (ℕ → Option ℕ) → ℕ → ℕ → List Patch
marked mark from zero = []
marked mark from (suc k) = marked mark from k ++ mark_at (from + 4 * k) (mark k)

-- ---- the FAT

-- the words up to a place are read as free
abbrev pub free_up_to : ℕ → ℕ → List Patch
free_up_to at upto = record { at = at; «end» = upto; word = free_sector } ∷ []

-- word k of a table's sector ends its chain there: it is missing, or names none of the first n
abbrev pub end_unless : Bool → Option ℕ
end_unless goes_on = if goes_on then None else Some end_of_chain

abbrev pub chain_mark : ℕ → List ℕ → ℕ → ℕ → Option ℕ
chain_mark n bytes from k = end_unless (has_word bytes (from + 4 * k) && points_below n (word_at bytes (from + 4 * k)))

-- of so many words from a place on all are free from the first that is missing, or says something of a sector past the end
unfoldable pub freed : List ℕ → ℕ → ℕ → List Patch
freed bytes at zero = []
freed bytes at (suc k) = if has_word bytes at && is_fat_padding (word_at bytes at) then freed bytes (at + 4) k else free_up_to at (at + 4 * suc k)

-- in a FAT sector: of its words so many are on sectors of the file
abbrev pub fat_sector_patches : Version → List ℕ → ℕ → ℕ → ℕ → List Patch
fat_sector_patches version bytes n s there = marked (chain_mark n bytes (sector_start version s)) (sector_start version s) there
    ++ freed bytes (sector_start version s + 4 * there) (words_per_sector version - there)

-- in these FAT sectors, which have words on so many sectors of the file and on such past its end
unfoldable pub fat_patches : Version → List ℕ → ℕ → List ℕ → ℕ → List Patch
fat_patches version bytes n [] left = []
fat_patches version bytes n (s ∷ fat) left = fat_sector_patches version bytes n s (min left (words_per_sector version))
    ++ fat_patches version bytes n fat (left - words_per_sector version)

-- ---- chains

-- the sectors of the chain that goes on at a word, so many at most, up to the first that is missing
unfoldable pub chain_from : Version → List ℕ → List ℕ → ℕ → ℕ → Option ℕ → List ℕ
chain_from version bytes fat n zero at = []
chain_from version bytes fat n (suc k) None = []
chain_from version bytes fat n (suc k) (Some at) =
    if leads_below n bytes at then word_at bytes at ∷ chain_from version bytes fat n k (fat_place version fat (word_at bytes at)) else []

-- the word with which it ends is the end of a chain, if it names a missing sector
unfoldable pub chain_patches : Version → List ℕ → List ℕ → ℕ → ℕ → Option ℕ → List Patch
chain_patches version bytes fat n zero at = []
chain_patches version bytes fat n (suc k) None = []
chain_patches version bytes fat n (suc k) (Some at) =
    if leads_below n bytes at then chain_patches version bytes fat n k (fat_place version fat (word_at bytes at))
    else if leads_past n bytes at then mark_at at (Some end_of_chain) else []

-- ---- the directory

-- the type of the entry at a place: of one that is cut it is that of none
abbrev pub kind_at : List ℕ → ℕ → ℕ
kind_at bytes at = if nat_le (at + 128) (length bytes) then byte_at bytes (at + 66) else 0

-- the types of so many entries from a place on
unfoldable pub kinds_from : List ℕ → ℕ → ℕ → List ℕ
kinds_from bytes from zero = []
kinds_from bytes from (suc k) = kinds_from bytes from k ++ kind_at bytes (from + 128 * k) ∷ []

-- the types of the entries in these sectors
abbrev pub kinds_of : Version → List ℕ → List ℕ → List ℕ
kinds_of version bytes directory = flat_map (λ s. kinds_from bytes (sector_start version s) (entries_per_sector version)) directory

-- the length that the entry at a place has, of which version 3 has the low half alone (MS-CFB 2.6.3)
abbrev pub len_at : Version → List ℕ → ℕ → ℕ
len_at V3 bytes at = word_at bytes (at + 120)
len_at V4 bytes at = word_at bytes (at + 120) + 0x1_0000_0000 * word_at bytes (at + 124)

-- that of the mini stream is in the first entry
abbrev pub mini_stream_len : Version → List ℕ → List ℕ → ℕ
mini_stream_len version bytes directory =
    if nat_lt 0 (length directory) && nat_le (sector_start version (slice_index directory 0) + 128) (length bytes) then len_at version bytes (sector_start version (slice_index directory 0)) else 0

-- word k of a sector of the directory has one of an entry's three links
abbrev pub is_link_word : ℕ → Bool
is_link_word k = nat_le 17 (k % 32) && nat_le (k % 32) 19

-- a slot with this number has a storage or a stream
abbrev pub has_object : List ℕ → ℕ → Bool
has_object kinds slot = (slice_index kinds slot == 1) || (slice_index kinds slot == 2)

-- this link names a slot that has neither
abbrev pub leads_to_none : List ℕ → ℕ → Bool
leads_to_none kinds link = not (link == no_stream) && not (has_object kinds link)

abbrev pub none_if : Bool → Option ℕ
none_if leads_nowhere = if leads_nowhere then Some no_stream else None

-- word k of a sector of the directory is no link: it was one of an entry, and leads to no storage and no stream
abbrev pub link_mark : List ℕ → List ℕ → ℕ → ℕ → Option ℕ
link_mark kinds bytes from k =
    none_if (is_link_word k && (not (kind_at bytes (from + 128 * (k / 32)) == 0) && leads_to_none kinds (word_at bytes (from + 4 * k))))

abbrev pub links_in : Version → List ℕ → List ℕ → ℕ → List Patch
links_in version bytes kinds s = marked (link_mark kinds bytes (sector_start version s)) (sector_start version s) (words_per_sector version)

-- the links of entries that lead to no storage and no stream
abbrev pub lost_links : Version → List ℕ → List ℕ → List Patch
lost_links version bytes directory = flat_map (links_in version bytes (kinds_of version bytes directory)) directory

-- ---- the end of the file

-- the end of a file of this length cuts the sector
abbrev pub is_cut : Version → ℕ → ℕ → Bool
is_cut version len s = nat_lt (sector_start version s) len && nat_lt len (sector_start version s + sector_len version)

-- where the first of these sectors that it cuts would end
unfoldable pub cut_end : Version → ℕ → List ℕ → ℕ
cut_end version len [] = 0
cut_end version len (s ∷ rest) = if is_cut version len s then sector_start version s + sector_len version else cut_end version len rest

-- the directory's last sector is zeros from the entry on that the end of the file cuts
abbrev pub cut_patches : ℕ → ℕ → List Patch
cut_patches len upto = if upto == 0 then [] else record { at = len - len % 128; «end» = upto; word = 0 } ∷ []

-- ---- the MiniFAT

-- so many of the first k words from a place on are those up to the last that is not free; a missing word is not
unfoldable pub used_in : List ℕ → ℕ → ℕ → ℕ
used_in bytes from zero = 0
used_in bytes from (suc k) = if has_word bytes (from + 4 * k) && (word_at bytes (from + 4 * k) == free_sector) then used_in bytes from k else suc k

-- the same of the words in the first k of these sectors
unfoldable pub used_words : Version → List ℕ → List ℕ → ℕ → ℕ
used_words version bytes minifat zero = 0
used_words version bytes minifat (suc k) =
    let here = used_in bytes (sector_start version (slice_index minifat k)) (words_per_sector version) in
    if here == 0 then used_words version bytes minifat k else k * words_per_sector version + here

-- the chains in these sectors end that go on past the first n mini sectors
abbrev pub mini_patches : Version → List ℕ → List ℕ → ℕ → List Patch
mini_patches version bytes minifat n =
    flat_map (λ s. marked (chain_mark n bytes (sector_start version s)) (sector_start version s) (words_per_sector version)) minifat

-- ---- the DIFAT

-- where the header has the number of the first DIFAT sector (MS-CFB 2.2)
abbrev pub first_difat_link : ℕ
first_difat_link = 68

-- where a DIFAT sector has the number of the next one
abbrev pub link_place : Version → ℕ → ℕ
link_place version s = sector_start version s + 4 * (words_per_sector version - 1)

-- the DIFAT sectors from the one on whose number stands at a place, so many at most
unfoldable pub difat_from : Version → List ℕ → ℕ → ℕ → List ℕ
difat_from version bytes zero at = []
difat_from version bytes (suc k) at =
    if has_word bytes at && is_regular (word_at bytes at) then word_at bytes at ∷ difat_from version bytes k (link_place version (word_at bytes at)) else []
