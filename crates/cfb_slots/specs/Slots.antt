-- The directory's slots by their places, and the entries in memory (MS-CFB 2.6).
use Rattle.std.specs.Prelude.{ℕ, ◌≡◌, ◌↔◌, ◌+◌, ◌*◌, ◌/◌, ◌%◌, ◌<◌, ◌≤◌, ◌⊎◌, List, length, slice_index, Contains}
use Rattle.cfb_format.specs.declared.version.Version.{Version}
use Rattle.cfb_format.specs.declared.validate.Validation.{Validation}
use Rattle.cfb_format.specs.Bytes.{entries_per_sector, sector_start}
use Rattle.cfb_format.specs.DirectoryEntry.{Entry, AcceptsEntry}
use Rattle.cfb_format.specs.Medium.{part}
use Rattle.cfb_format.specs.Siblings.{entry_at}

-- where slot k of the directory stands, in one of these sectors
abbrev pub slot_place : Version → List ℕ → ℕ → ℕ
slot_place version sectors k = sector_start version (slice_index sectors (k / entries_per_sector version)) + k % entries_per_sector version * 128

-- its 128 bytes
abbrev pub slot_of : Version → List ℕ → List ℕ → ℕ → List ℕ
slot_of version bytes sectors k = part bytes (slot_place version sectors k) 128

-- the slots hold these entries as this mode takes them, but perhaps not the late ones
pub record HoldSlotsBut (late : List ℕ) (validation : Validation) (version : Version) (bytes sectors : List ℕ) (entries : List Entry) : Type 0 where
  pub count : length entries ≡ length sectors * entries_per_sector version
  pub each : (k : ℕ) → k < length entries → (Contains late k → ⊥) → AcceptsEntry validation version (slot_of version bytes sectors k) (entry_at entries k)

-- the sectors have a slot for each of so many entries, and all of them are among so many sectors of the file
pub record HavePlaces (version : Version) (sectors : List ℕ) (entries count : ℕ) : Type 0 where
  pub slots : entries ≡ length sectors * entries_per_sector version
  pub within : (i : ℕ) → Contains sectors i → i < count

-- this number is above all of them, and each lower one is not
abbrev pub IsLeastAbove : List ℕ → ℕ → Type 0
IsLeastAbove sectors above = (n : ℕ) → (above ≤ n) ↔ ((i : ℕ) → Contains sectors i → i < n)

-- of the bytes those of these slots alone change, and none is lost; what lies past the old end is open
pub record ChangesSlots (touched : List ℕ) (version : Version) (sectors old new : List ℕ) : Type 0 where
  pub no_shorter : length old ≤ length new
  pub others : (i : ℕ) → i < length old → ((k : ℕ) → Contains touched k → (i < slot_place version sectors k) ⊎ (slot_place version sectors k + 128 ≤ i))
      → slice_index new i ≡ slice_index old i
