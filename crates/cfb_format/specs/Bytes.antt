-- Numbers and sectors in the bytes of a compound file (MS-CFB 2.1 and 2.3).
-- A byte is a number. Nothing here needs it to be below 256: whoever writes a number and reads it back does.
use Rattle.std.specs.Prelude.{ℕ, zero, suc, ◌+◌, ◌-◌, ◌*◌, ◌/◌, List, [], ◌∷◌, ◌++◌, Bool, length, take, drop, slice_index, nat_le, nat_lt, not, ◌==◌, ◌||◌}
use Rattle.std.specs.Int.{from_le_bytes, to_le_bytes, w16, w32, w64}
use Rattle.cfb_format.specs.declared.version.Version.{Version}
use Rattle.cfb_format.specs.declared.version.Version.TheVariants.{V3, V4}

-- the byte at a place
abbrev pub byte_at : List ℕ → ℕ → ℕ
byte_at bytes at = slice_index bytes at

-- the little-endian number of the 2 bytes at a place (MS-CFB 2.1)
unfoldable pub unit_at : List ℕ → ℕ → ℕ
unit_at bytes at = from_le_bytes w16 (drop at bytes)

-- the same of 4 bytes
unfoldable pub word_at : List ℕ → ℕ → ℕ
word_at bytes at = from_le_bytes w32 (drop at bytes)

-- the same of 8 bytes
unfoldable pub long_at : List ℕ → ℕ → ℕ
long_at bytes at = from_le_bytes w64 (drop at bytes)

-- the first k words of 4 bytes
unfoldable pub words : ℕ → List ℕ → List ℕ
words zero bytes = []
words (suc k) bytes = from_le_bytes w32 bytes ∷ words k (drop 4 bytes)

-- words of 4 bytes, as they are written
unfoldable pub word_bytes : List ℕ → List ℕ
word_bytes [] = []
word_bytes (word ∷ rest) = to_le_bytes w32 word ++ word_bytes rest

-- units of 2 bytes, as they are written
unfoldable pub unit_bytes : List ℕ → List ℕ
unit_bytes [] = []
unit_bytes (unit ∷ rest) = to_le_bytes w16 unit ++ unit_bytes rest

-- ---- the versions

-- the major version (MS-CFB 2.2)
abbrev pub version_number : Version → ℕ
version_number V3 = 3
version_number V4 = 4

-- the sector shift: a sector has 2 to this many bytes (MS-CFB 2.2)
abbrev pub sector_shift : Version → ℕ
sector_shift V3 = 9
sector_shift V4 = 12

-- the length of a sector (MS-CFB 2.1)
abbrev pub sector_len : Version → ℕ
sector_len V3 = 512
sector_len V4 = 4096

-- how many words a sector holds (MS-CFB 2.3)
abbrev pub words_per_sector : Version → ℕ
words_per_sector V3 = 128
words_per_sector V4 = 1024

-- how many directory entries a sector holds (MS-CFB 2.6)
abbrev pub entries_per_sector : Version → ℕ
entries_per_sector V3 = 4
entries_per_sector V4 = 32

-- a stored length is taken modulo this, and this less 1 is the greatest length of a stream
abbrev pub stream_len_modulus : Version → ℕ
stream_len_modulus V3 = 0x1_0000_0000
stream_len_modulus V4 = 0x1_0000_0000_0000_0000

-- the greatest length of a stream (MS-CFB 2.6.3)
abbrev pub max_stream_len : Version → ℕ
max_stream_len version = stream_len_modulus version - 1

-- ---- sectors: the header takes the place of one

-- where a sector begins (MS-CFB 2.1)
abbrev pub sector_start : Version → ℕ → ℕ
sector_start version i = (i + 1) * sector_len version

-- the bytes of a sector, as far as the file goes
abbrev pub sector_bytes : Version → List ℕ → ℕ → List ℕ
sector_bytes version bytes i = take (sector_len version) (drop (sector_start version i) bytes)

-- the words of a sector
abbrev pub sector_words : Version → List ℕ → ℕ → List ℕ
sector_words version bytes i = words (words_per_sector version) (drop (sector_start version i) bytes)

-- how many sectors the file has; a last one that is cut short counts
abbrev pub sector_count : Version → List ℕ → ℕ
sector_count version bytes = (length bytes + (sector_len version - 1)) / sector_len version - 1

-- the file has all of this sector, and so its number is below the count
abbrev pub is_whole_sector : Version → List ℕ → ℕ → Bool
is_whole_sector version bytes i = nat_le (sector_start version i + sector_len version) (length bytes)

-- ---- the marks that stand in a table in place of a sector's number

-- MAXREGSECT (MS-CFB 2.1)
abbrev pub max_regular_sector : ℕ
max_regular_sector = 0xFFFF_FFFA

-- reserved (MS-CFB 2.1)
abbrev pub invalid_sector : ℕ
invalid_sector = 0xFFFF_FFFB

-- DIFSECT (MS-CFB 2.1)
abbrev pub difat_sector : ℕ
difat_sector = 0xFFFF_FFFC

-- FATSECT (MS-CFB 2.1)
abbrev pub fat_sector : ℕ
fat_sector = 0xFFFF_FFFD

-- ENDOFCHAIN (MS-CFB 2.1)
abbrev pub end_of_chain : ℕ
end_of_chain = 0xFFFF_FFFE

-- FREESECT (MS-CFB 2.1)
abbrev pub free_sector : ℕ
free_sector = 0xFFFF_FFFF

-- in place of an entry's number: no entry
abbrev pub no_stream : ℕ
no_stream = 0xFFFF_FFFF

-- the word is a number of a sector or of an entry, and so a pointer
abbrev pub is_regular : ℕ → Bool
is_regular word = nat_le word max_regular_sector

-- what an entry of the DIFAT may be (MS-CFB 2.5)
abbrev pub is_regular_or_free : ℕ → Bool
is_regular_or_free word = is_regular word || word == free_sector

-- a pointer is below n; any other word is none
abbrev pub points_below : ℕ → ℕ → Bool
points_below n word = not (is_regular word) || nat_lt word n
