-- How a directory becomes longer, before a new entry is put into it (MS-CFB 2.6).
use Rattle.std.specs.Prelude.{ℕ, ◌≡◌, ◌<◌, List, length, Contains}
use Rattle.cfb_format.specs.Chain.{IsChain}
use Rattle.cfb_directory.specs.cfb_tables.Tables.{TableState, first_or_end}
use Rattle.cfb_slots.specs.Slots.{HavePlaces, slot_of}
use Rattle.cfb_directory.specs.State.{DirectoryState, directory_version, directory_bytes, directory_tables}

-- each entry has a slot in sectors of the file, and no slot is left over
abbrev pub ArePlaced : DirectoryState → Type 0
ArePlaced d = HavePlaces (directory_version d) d.sectors (length d.entries) (length (directory_tables d).fat)

-- in the file the slots of all entries stay
abbrev pub KeepsSlots : DirectoryState → DirectoryState → Type 0
KeepsSlots old new = (k : ℕ) → k < length old.entries → slot_of (directory_version old) (directory_bytes new) old.sectors k ≡ slot_of (directory_version old) (directory_bytes old) old.sectors k

-- these sectors are sectors of the file
abbrev pub AreSectorsOf : TableState → List ℕ → Type 0
AreSectorsOf tables sectors = (i : ℕ) → Contains sectors i → i < length tables.fat

-- they are the chain of the first of them
abbrev pub IsListedChain : TableState → List ℕ → Type 0
IsListedChain tables sectors = IsChain tables.fat (first_or_end sectors) sectors

-- the version and the greatest number of sectors stay
pub record KeepsBounds (old new : TableState) : Type 0 where
  pub version : new.version ≡ old.version
  pub max_sectors : new.max_sectors ≡ old.max_sectors
