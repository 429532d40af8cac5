-- When a file is full. `limit` is the number of sectors that it may grow to.
use Rattle.std.specs.Prelude.{ℕ, ◌+◌, ◌-◌, ◌*◌, ◌/◌, ◌≡◌, ◌<◌, ◌≤◌, ◌⊎◌, List, [], ◌∷◌, length, slice_set, Bool, true, false, count_by, nat_le, nat_lt, if◌then◌else◌, ◌==◌}
use Rattle.cfb_format.specs.declared.version.Version.{Version}
use Rattle.cfb_format.specs.declared.version.Version.TheVariants.{V3, V4}
use Rattle.cfb_format.specs.declared.objtype.ObjType.{ObjType}
use Rattle.cfb_format.specs.declared.objtype.ObjType.TheVariants.{Unallocated}
use Rattle.cfb_format.specs.Bytes.{sector_len, words_per_sector, entries_per_sector, free_sector}
use Rattle.cfb_format.specs.Header.{header_difat_len}
use Rattle.cfb_format.specs.Reading.{Reading, HasReading}
use Rattle.cfb_format.specs.Names.{Cases}
use Rattle.cfb_format.specs.Siblings.{entry_at}
use Rattle.cfb_format.specs.Content.{mini_sector_len, mini_stream_cutoff, is_large}
use Rattle.cfb_format.specs.Fat.{without_end}
use Rattle.cfb_format.specs.Soundness.{mini_stream_sectors, sectors_of, mini_sectors_of}
use Rattle.cfb_format.specs.Tree.{Objects, nothing, storage, stream, Tree}

-- how many of this size hold n
abbrev pub rounded_up : ℕ → ℕ → ℕ
rounded_up n size = (n + (size - 1)) / size

-- how many numbers are free
abbrev pub free_count : List ℕ → ℕ
free_count table = count_by (λ value. value == free_sector) table

-- with so many more sectors at the end, tables of these sizes cover the file, have their places, and stay below the limit
pub record HasRoom (version : Version) (limit n fat_count difat_count wanted : ℕ) : Type 0 where
  pub fats : ℕ
  pub difats : ℕ
  pub more_fats : fat_count ≤ fats
  pub more_difats : difat_count ≤ difats
  pub places : fats ≤ header_difat_len + difats * (words_per_sector version - 1)
  pub covers : n + wanted + (fats - fat_count) + (difats - difat_count) ≤ fats * words_per_sector version
  pub left : wanted + (fats - fat_count) + (difats - difat_count) ≤ limit - n

-- so many sectors can be taken once `given_back` more numbers are free
abbrev pub CanTake : ℕ → Reading → ℕ → ℕ → Type 0
CanTake limit r given_back wanted =
    HasRoom r.header.version limit (length r.fat) (length r.fat_sectors) (length r.difat_sectors) (wanted - (free_count r.fat + given_back))

-- how many mini sectors the lengths of a version have room for (MS-CFB 2.4 and 2.6.3)
abbrev pub max_mini_sectors : Version → ℕ
max_mini_sectors V3 = 67108863
max_mini_sectors V4 = 0xFFFF_FFFA

-- how many directory entries have a number (MS-CFB 2.6.1)
abbrev pub max_entries : ℕ
max_entries = 0xFFFF_FFFB

-- the entry is not used (MS-CFB 2.6.1)
abbrev pub is_unallocated : ObjType → Bool
is_unallocated Unallocated = true
is_unallocated other = false

-- what a length needs: sectors from the cutoff on
abbrev pub sectors_for : Version → ℕ → ℕ
sectors_for version len = if nat_le mini_stream_cutoff len then rounded_up len (sector_len version) else 0

-- and mini sectors below the cutoff (MS-CFB 2.4)
abbrev pub mini_sectors_for : ℕ → ℕ
mini_sectors_for len = if nat_le mini_stream_cutoff len then 0 else rounded_up len mini_sector_len

-- how many sectors the stream of this entry has: those of its chain, which may be longer than its length needs; a short stream has none
abbrev pub sectors_in_chain : Reading → ℕ → ℕ
sectors_in_chain r i = if is_large (entry_at r.entries i) then length (sectors_of r i) else 0

-- and how many mini sectors
abbrev pub mini_sectors_in_chain : Reading → ℕ → ℕ
mini_sectors_in_chain r i = if is_large (entry_at r.entries i) then 0 else length (mini_sectors_of r i)

-- the entries of the MiniFAT once the stream has mini sectors for this length
abbrev pub minifat_len_for : Reading → ℕ → ℕ → ℕ
minifat_len_for r i len = length r.minifat + ((mini_sectors_for len - mini_sectors_in_chain r i) - free_count r.minifat)

-- how many sectors the stream takes for this length: its own, the MiniFAT's and the mini stream's
abbrev pub wanted_for : Reading → ℕ → ℕ → ℕ
wanted_for r i len =
    (sectors_for r.header.version len - sectors_in_chain r i)
    + (rounded_up (minifat_len_for r i len) (words_per_sector r.header.version) - length r.minifat_sectors)
    + (rounded_up (minifat_len_for r i len * mini_sector_len) (sector_len r.header.version) - length (mini_stream_sectors r))

-- the table with these numbers free
abbrev pub freed : List ℕ → List ℕ → List ℕ
freed table [] = table
freed table (i ∷ list) = freed (slice_set table i free_sector) list

-- how many entries the MiniFAT has once the stream's mini sectors are free
abbrev pub minifat_len_without : Reading → ℕ → ℕ
minifat_len_without r i = length (without_end (λ word. word == free_sector) (freed r.minifat (mini_sectors_of r i)))

-- how many sectors the MiniFAT and the mini stream give back then: none where the stream has no mini sector
abbrev pub room_behind : Reading → ℕ → ℕ
room_behind r i = if nat_lt 0 (mini_sectors_in_chain r i)
    then (length r.minifat_sectors - rounded_up (minifat_len_without r i) (words_per_sector r.header.version))
    + (length (mini_stream_sectors r) - rounded_up (minifat_len_without r i * mini_sector_len) (sector_len r.header.version))
    else 0

-- how many sectors it gives back first: its own where it becomes a mini one, and those for its mini sectors where it becomes long
abbrev pub given_back_for : Reading → ℕ → ℕ → ℕ
given_back_for r i len = if nat_lt len mini_stream_cutoff then sectors_in_chain r i else room_behind r i

-- no sector can be taken
abbrev pub IsFullOfSectors : ℕ → Reading → Type 0
IsFullOfSectors limit r = ¬ (CanTake limit r 0 1)

-- no mini sector is free and their number is at its limit
abbrev pub IsFullOfMiniSectors : Reading → Type 0
IsFullOfMiniSectors r = (free_count r.minifat ≡ 0) × (max_mini_sectors r.header.version ≤ length r.minifat)

-- no entry is free and their number is at its limit: another sector of them would pass it
abbrev pub IsFullOfEntries : Reading → Type 0
IsFullOfEntries r = (count_by (λ e. is_unallocated e.obj_type) r.entries ≡ 0) × (max_entries < length r.entries + entries_per_sector r.header.version)

-- this length of the stream of that entry needs more sectors than there are numbers for
abbrev pub IsTooLong : ℕ → Reading → ℕ → ℕ → Type 0
IsTooLong limit r i len = ¬ (CanTake limit r (given_back_for r i len) (wanted_for r i len))

-- nothing more can be taken
abbrev pub IsFull : ℕ → Reading → Type 0
IsFull limit r = IsFullOfSectors limit r ⊎ IsFullOfMiniSectors r ⊎ IsFullOfEntries r

-- ---- a copy into a new file

-- how many entries the objects take
abbrev pub object_count : Objects → ℕ
object_count nothing = 0
object_count (storage name info inside rest) = 1 + object_count inside + object_count rest
object_count (stream name info rest) = 1 + object_count rest

-- how many sectors their streams take
abbrev pub sectors_in : Version → Objects → ℕ
sectors_in version nothing = 0
sectors_in version (storage name info inside rest) = sectors_in version inside + sectors_in version rest
sectors_in version (stream name info rest) = sectors_for version info.len + sectors_in version rest

-- how many mini sectors their streams take
abbrev pub mini_sectors_in : Objects → ℕ
mini_sectors_in nothing = 0
mini_sectors_in (storage name info inside rest) = mini_sectors_in inside + mini_sectors_in rest
mini_sectors_in (stream name info rest) = mini_sectors_for info.len + mini_sectors_in rest

-- the directory's sectors for this number of objects and the root
abbrev pub directory_sectors_for : Version → ℕ → ℕ
directory_sectors_for version objects = rounded_up (1 + objects) (entries_per_sector version)

-- all sectors of a file that has this tree and nothing else, its FAT and DIFAT aside
abbrev pub sectors_of_tree : Version → Tree → ℕ
sectors_of_tree version tree = sectors_in version tree.objects
    + rounded_up (mini_sectors_in tree.objects * mini_sector_len) (sector_len version)
    + rounded_up (mini_sectors_in tree.objects) (words_per_sector version)
    + directory_sectors_for version (object_count tree.objects)

-- no file of this version has room for the tree
abbrev pub IsTooLarge : Version → ℕ → Tree → Type 0
IsTooLarge version limit tree = (¬ (HasRoom version limit 0 0 0 (sectors_of_tree version tree)))
    ⊎ (max_mini_sectors version < mini_sectors_in tree.objects)
    ⊎ (max_entries < directory_sectors_for version (object_count tree.objects) * entries_per_sector version)

-- ---- the sizes of the tables of a created file

-- there are as many FAT sectors as cover the file, and as many DIFAT sectors as list those that the header doesn't
pub record HasExactTables (r : Reading) : Type 0 where
  pub fats : length r.fat_sectors ≡ rounded_up (length r.fat) (words_per_sector r.header.version)
  pub difats : length r.difat_sectors ≡ rounded_up (length r.fat_sectors - header_difat_len) (words_per_sector r.header.version - 1)

-- the bytes are a compound file with just these tables
abbrev pub HasExactTablesFile : Cases → List ℕ → Type 0
HasExactTablesFile cases bytes = HasReading cases bytes HasExactTables
