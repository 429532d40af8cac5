-- What is seen of a chain whose allocator is lent: one list of bytes with a position (MS-CFB 2.3).
use Rattle.std.specs.Prelude.{◌≡◌, ◌<◌, ◌≤◌, ◌⊎◌, ℕ, ◌+◌, ◌-◌, ◌*◌, ◌/◌, ◌%◌, min, List, ◌++◌, length, take, Result, Vec, slice_index, nat_lt, if◌then◌else◌}
use Rattle.std.specs.Borrow.{RattleType, MutBor, Fml, RestsIfErr}
use Rattle.std.specs.declared.alloc.Allocator as heap
use Rattle.cfb_format.specs.Bytes.{sector_len}
use Rattle.cfb_format.specs.Content.{bytes_along}
use Rattle.cfb_format.specs.Full.{rounded_up}
use Rattle.cfb_format.specs.declared.error.Error.{Error}
use Rattle.cfb_format.specs.declared.medium.ReadMedium as medium
use Rattle.cfb_format.specs.declared.version.Version.{Version}
use Rattle.cfb_chains.specs.cfb_alloc.Agreement.{HasSectors}
use Rattle.cfb_chains.specs.cfb_alloc.Alloc.{AllocatorState}
use Rattle.cfb_chains.specs.ChainPlaces.{place_along}
use Rattle.cfb_chains.specs.cfb_tables.Listed.{gained}
use Rattle.cfb_chains.specs.declared.chain.Chain.{Chain}
use Rattle.cfb_chains.specs.declared.chain.Numbers as numbers
use Rattle.cfb_sectors.specs.Sectors.{init_bytes}
use Rattle.cfb_sectors.specs.declared.sector.SectorInit.{SectorInit}
use Rattle.cfb_chains.specs.cfb_alloc.contracts.alloc.Allocator.{the_row}

module _ {F A : Type 0} {g : medium.Ghosts F} {n : numbers.Ghosts (Vec ℕ A)} where
  -- the allocator that it is borrowed from
  abbrev pub allocator_of : Chain F A (Vec ℕ A) g n → MutBor AllocatorState
  allocator_of c = c.allocator

  -- the number that it starts with, its sectors in order, and what a sector that it gains holds
  abbrev pub start_sector_of : Chain F A (Vec ℕ A) g n → ℕ
  start_sector_of c = c.start

  abbrev pub ids_of : Chain F A (Vec ℕ A) g n → List ℕ
  ids_of c = c.ids.items

  abbrev pub init_of : Chain F A (Vec ℕ A) g n → SectorInit
  init_of c = c.init

  abbrev pub version_of : Chain F A (Vec ℕ A) g n → Version
  version_of c = c.allocator.now.tables.version

  -- how many bytes it has, and which of them is the next
  abbrev pub len_of : Chain F A (Vec ℕ A) g n → ℕ
  len_of c = length (ids_of c) * sector_len (version_of c)

  abbrev pub position_of : Chain F A (Vec ℕ A) g n → ℕ
  position_of c = c.position

  -- how many bytes it has from the position on
  abbrev pub left_of : Chain F A (Vec ℕ A) g n → ℕ
  left_of c = len_of c - position_of c

  -- the bytes of the file, where byte k of the chain stands among them, and which byte that is
  abbrev pub file_bytes_of : Chain F A (Vec ℕ A) g n → List ℕ
  file_bytes_of c = (allocator_of c).now.file.bytes

  abbrev pub place_at : Chain F A (Vec ℕ A) g n → ℕ → ℕ
  place_at c k = place_along (version_of c) (ids_of c) k

  abbrev pub byte_of : Chain F A (Vec ℕ A) g n → ℕ → ℕ
  byte_of c k = slice_index (file_bytes_of c) (place_at c k)

  -- how many bytes the sector at the position has from there on, none past the end, and where in the file they begin
  abbrev pub room_of : Chain F A (Vec ℕ A) g n → ℕ
  room_of c = if nat_lt (position_of c) (len_of c) then sector_len (version_of c) - position_of c % sector_len (version_of c) else 0

  abbrev pub place_of : Chain F A (Vec ℕ A) g n → ℕ
  place_of c = place_at c (position_of c)

  -- how many sectors are missing for so many bytes from the position on
  abbrev pub missing_of : Chain F A (Vec ℕ A) g n → ℕ → ℕ
  missing_of c count = rounded_up (position_of c + count - len_of c) (sector_len (version_of c))

  -- how many sectors so many bytes need
  abbrev pub wanted_of : Chain F A (Vec ℕ A) g n → ℕ → ℕ
  wanted_of c len = rounded_up len (sector_len (version_of c))

  -- how many bytes the sector of a byte has from there on, where no sector begins there
  abbrev pub tail_of : Chain F A (Vec ℕ A) g n → ℕ → ℕ
  tail_of c offset = sector_len (version_of c) - offset % sector_len (version_of c)

  -- the file has each of its sectors whole
  abbrev pub HasAllSectors : Chain F A (Vec ℕ A) g n → Type 0
  HasAllSectors c = HasSectors (version_of c) (allocator_of c).now.file.bytes (ids_of c)

  -- the bytes of its sectors, one after the other
  abbrev pub content_of : Chain F A (Vec ℕ A) g n → List ℕ
  content_of c = bytes_along (version_of c) (allocator_of c).now.file.bytes (ids_of c)

  -- each of its sectors is whole, and these are its bytes
  abbrev pub HasBytes : Chain F A (Vec ℕ A) g n → List ℕ → Type 0
  HasBytes c content = HasAllSectors c × (content_of c ≡ content)

  -- this sector holds one of so many bytes from the position on
  pub record HoldsWanted (count : ℕ) (c : Chain F A (Vec ℕ A) g n) (sector : ℕ) : Type 0 where
    pub byte : ℕ
    pub behind : position_of c ≤ byte
    pub wanted : byte < position_of c + count
    pub there : byte < len_of c
    pub here : slice_index (ids_of c) (byte / sector_len (version_of c)) ≡ sector

  -- the file loses no byte, and all stay but so many bytes of the chain from the position on
  pub record ChangesOnlyWanted (count : ℕ) (old new : Chain F A (Vec ℕ A) g n) : Type 0 where
    pub no_shorter : length (file_bytes_of old) ≤ length (file_bytes_of new)
    pub others : (i : ℕ) → i < length (file_bytes_of old)
        → ((k : ℕ) → position_of old ≤ k → k < position_of old + count → k < len_of old → place_at old k ≡ i → ⊥)
        → slice_index (file_bytes_of new) i ≡ slice_index (file_bytes_of old) i

  -- so many of these bytes were written at the position; the chain may have gained sectors for all of them first
  pub record HasWritten (count : ℕ) (from : List ℕ) (old new : Chain F A (Vec ℕ A) g n) : Type 0 where
    -- each byte of the old chain has its place in the file still
    pub places : (k : ℕ) → k < len_of old → place_at new k ≡ place_at old k
    -- the bytes that were written stand in their places
    pub written : (j : ℕ) → j < count → (place_at new (position_of old + j) < length (file_bytes_of new)) × (byte_of new (position_of old + j) ≡ slice_index from j)
    -- each other byte of the old chain that the file had is as before
    pub stays : (k : ℕ) → k < len_of old → (k < position_of old) ⊎ (position_of old + count ≤ k) → place_at old k < length (file_bytes_of old) → byte_of new k ≡ byte_of old k
    -- where no sector was gained, one that the file did not have is a zero if it has it now
    pub gap : len_of new ≡ len_of old → (k : ℕ) → k < len_of old → (k < position_of old) ⊎ (position_of old + count ≤ k) → length (file_bytes_of old) ≤ place_at old k → byte_of new k ≡ 0
    -- behind all these bytes the gained sectors hold what a fresh one does
    pub fresh : (k : ℕ) → len_of old ≤ k → k < len_of new → position_of old + length from ≤ k
        → (place_at new k < length (file_bytes_of new)) × (byte_of new k ≡ slice_index (init_bytes (version_of old) (init_of old)) (k % sector_len (version_of old)))

  -- the chain was made as long as this length needs, by sectors that it gained or lost
  pub record HasResized (len : ℕ) (old new : Chain F A (Vec ℕ A) g n) : Type 0 where
    -- each byte of the old chain below the length has its place in the file still
    pub places : (k : ℕ) → k < len → k < len_of old → place_at new k ≡ place_at old k
    -- and is as before where the file had it
    pub stays : (k : ℕ) → k < len → k < len_of old → place_at old k < length (file_bytes_of old) → byte_of new k ≡ byte_of old k
    -- where the sectors are the same, one that the file did not have is a zero if it has it now
    pub gap : len_of new ≡ len_of old → (k : ℕ) → k < len → k < len_of old → length (file_bytes_of old) ≤ place_at old k → byte_of new k ≡ 0
    -- where no sector was gained, the bytes behind the length are zeros
    pub zeros : len_of new ≤ len_of old → (k : ℕ) → len ≤ k → k < len_of new → (place_at new k < length (file_bytes_of new)) × (byte_of new k ≡ 0)
    -- the gained sectors hold what a fresh one does
    pub fresh : (k : ℕ) → len_of old ≤ k → k < len_of new
        → (place_at new k < length (file_bytes_of new)) × (byte_of new k ≡ slice_index (init_bytes (version_of old) (init_of old)) (k % sector_len (version_of old)))

  -- it has so many sectors more, and the position stayed
  abbrev pub HasGained : ℕ → Chain F A (Vec ℕ A) g n → Chain F A (Vec ℕ A) g n → Type 0
  HasGained count old new = (ids_of new ≡ ids_of old ++ gained (ids_of old) (ids_of new)) × (length (gained (ids_of old) (ids_of new)) ≡ count) × (position_of new ≡ position_of old)

  -- it has so many of its sectors, and the position is the end where it was past it
  abbrev pub HasKept : ℕ → Chain F A (Vec ℕ A) g n → Chain F A (Vec ℕ A) g n → Type 0
  HasKept count old new = (ids_of new ≡ take count (ids_of old)) × (position_of new ≡ min (position_of old) (len_of new))

  -- it has so many sectors, gained or kept
  pub record HasTurned (count : ℕ) (old new : Chain F A (Vec ℕ A) g n) : Type 0 where
    pub longer : length (ids_of old) < count → HasGained (count - length (ids_of old)) old new
    pub shorter : count ≤ length (ids_of old) → HasKept count old new

  -- nothing has changed
  abbrev pub IsAsBefore : Chain F A (Vec ℕ A) g n → Chain F A (Vec ℕ A) g n → Type 0
  IsAsBefore old new = ((allocator_of new).now ≡ (allocator_of old).now) × (ids_of new ≡ ids_of old) × (position_of new ≡ position_of old)

module _ (F A : RattleType) (g : medium.Ghosts F.Denot) (h : heap.Ghosts A.Denot) {n : numbers.Ghosts (Vec ℕ A.Denot)} where
  -- the allocator is as before where no chain was opened
  abbrev pub allocator_rests : MutBor AllocatorState → Result (Chain F.Denot A.Denot (Vec ℕ A.Denot) g n) Error → Fml
  allocator_rests a r = RestsIfErr (the_row F A g h) a (λ c. (allocator_of c).ghost_name) r (λ last. last ≡ a.now)
