-- Sound files, in which each sector has at most one use and no loose end can come alive.
use Rattle.std.specs.Prelude.{ℕ, ◌*◌, ◌≡◌, ◌≢◌, ◌<◌, ◌≤◌, List, [], ◌∷◌, ◌++◌, false, not, length, filter, flat_map, nat_eq, slice_index, IsTrue, IsSome, Contains, unwrap_or, if◌then◌else◌, ◌==◌}
use Rattle.std.specs.List.{IsDistinct}
use Rattle.cfb_format.specs.Bytes.{words_per_sector, sector_len, sector_count, is_regular, free_sector}
use Rattle.cfb_format.specs.Fat.{is_among, raw_fat}
use Rattle.cfb_format.specs.Names.{Cases}
use Rattle.cfb_format.specs.Siblings.{entry_at}
use Rattle.cfb_format.specs.Chain.{value}
use Rattle.cfb_format.specs.Reading.{Reading, HasReading, stream_numbers}
use Rattle.cfb_format.specs.Content.{is_large, sector_chain, mini_chain, content_chain, mini_stream_chain, mini_sector_len, readable}

-- the tree's streams, by the numbers of their entries
abbrev pub streams : Reading → List ℕ
streams r = stream_numbers r.outline

-- of these the ones that lie in sectors
abbrev pub large_streams : Reading → List ℕ
large_streams r = filter (λ i. is_large (entry_at r.entries i)) (streams r)

-- and the ones that lie in mini sectors
abbrev pub small_streams : Reading → List ℕ
small_streams r = filter (λ i. not (is_large (entry_at r.entries i))) (streams r)

-- the sectors of a stream
abbrev pub sectors_of : Reading → ℕ → List ℕ
sectors_of r i = unwrap_or (sector_chain r (entry_at r.entries i)) []

-- the mini sectors of a stream
abbrev pub mini_sectors_of : Reading → ℕ → List ℕ
mini_sectors_of r i = unwrap_or (mini_chain r (entry_at r.entries i)) []

-- the sectors of the mini stream
abbrev pub mini_stream_sectors : Reading → List ℕ
mini_stream_sectors r = unwrap_or (mini_stream_chain r) []

-- all sectors that have a use
abbrev pub used_sectors : Reading → List ℕ
used_sectors r = r.fat_sectors ++ r.difat_sectors ++ r.directory ++ r.minifat_sectors ++ mini_stream_sectors r
    ++ flat_map (sectors_of r) (large_streams r)

-- all mini sectors that have a use
abbrev pub used_mini_sectors : Reading → List ℕ
used_mini_sectors r = flat_map (mini_sectors_of r) (small_streams r)

-- an entry of a table that is neither free nor used
abbrev pub IsLoose : List ℕ → List ℕ → ℕ → Type 0
IsLoose table used i = (value table i ≢ free_sector) × (Contains used i → ⊥)

-- such entries point to such entries alone
abbrev pub KeepsLoose : List ℕ → List ℕ → Type 0
KeepsLoose table used = (i : ℕ) → IsLoose table used i → IsTrue (is_regular (value table i)) → IsLoose table used (value table i)

-- no word of the FAT points past the file, those of listed FAT and DIFAT sectors aside
abbrev pub PointsIntoFile : List ℕ → Reading → Type 0
PointsIntoFile bytes r = (i : ℕ) → i < length (raw_fat r.header.version bytes r.fat_sectors)
    → is_among (r.fat_sectors ++ r.difat_sectors) i ≡ false
    → IsTrue (is_regular (slice_index (raw_fat r.header.version bytes r.fat_sectors) i))
    → slice_index (raw_fat r.header.version bytes r.fat_sectors) i < sector_count r.header.version bytes

-- no sector has two uses, no loose end can come alive, and every stream is whole
pub record IsSound (bytes : List ℕ) (r : Reading) : Type 0 where
  pub covers : sector_count r.header.version bytes ≤ length r.fat_sectors * words_per_sector r.header.version
  -- every chain is one
  pub mini_stream : IsSome (mini_stream_chain r)
  pub chains : (i : ℕ) → Contains (streams r) i → IsSome (content_chain r (entry_at r.entries i))
  -- no sector and no mini sector has two uses
  pub sectors : IsDistinct nat_eq (used_sectors r)
  pub mini_sectors : IsDistinct nat_eq (used_mini_sectors r)
  -- the mini stream has room for each entry of the MiniFAT
  pub mini_room : length r.minifat * mini_sector_len ≤ length (mini_stream_sectors r) * sector_len r.header.version
  pub loose : KeepsLoose r.fat (used_sectors r)
  pub mini_loose : KeepsLoose r.minifat (used_mini_sectors r)
  pub pointers : PointsIntoFile bytes r
  -- every stream can be read to its end
  pub whole : (i : ℕ) → Contains (streams r) i → length (readable bytes r (entry_at r.entries i)) ≡ (entry_at r.entries i).stream_len

-- the bytes are a compound file that is sound
abbrev pub IsSoundFile : Cases → List ℕ → Type 0
IsSoundFile cases bytes = HasReading cases bytes (IsSound bytes)

-- ---- owners

-- what a sector is used for; a stream goes by the number of its entry
pub data Owner : Type 0 where
  fat_table : Owner
  difat_table : Owner
  directory_of_file : Owner
  minifat_table : Owner
  mini_stream : Owner
  one_stream : ℕ → Owner
  is_free : Owner
  no_owner : Owner

-- the first of these streams that has the number among its own, and else what is given
abbrev pub first_owner : (ℕ → List ℕ) → ℕ → Owner → List ℕ → Owner
first_owner members i other [] = other
first_owner members i other (k ∷ rest) = if is_among (members k) i then one_stream k else first_owner members i other rest

-- the list that has the sector, or free, or none
abbrev pub owner : Reading → ℕ → Owner
owner r i =
    if is_among r.fat_sectors i then fat_table
    else if is_among r.difat_sectors i then difat_table
    else if is_among r.directory i then directory_of_file
    else if is_among r.minifat_sectors i then minifat_table
    else if is_among (mini_stream_sectors r) i then mini_stream
    else first_owner (sectors_of r) i (if slice_index r.fat i == free_sector then is_free else no_owner) (large_streams r)

-- the same of a mini sector
abbrev pub mini_owner : Reading → ℕ → Owner
mini_owner r m = first_owner (mini_sectors_of r) m (if slice_index r.minifat m == free_sector then is_free else no_owner) (small_streams r)

-- each sector and each mini sector is free or has an owner
pub record IsOwned (r : Reading) : Type 0 where
  pub sectors : (i : ℕ) → i < length r.fat → owner r i ≢ no_owner
  pub mini_sectors : (m : ℕ) → m < length r.minifat → mini_owner r m ≢ no_owner

-- the bytes are a compound file in which nothing is lost
abbrev pub IsOwnedFile : Cases → List ℕ → Type 0
IsOwnedFile cases bytes = HasReading cases bytes IsOwned
