-- What the calls of a directory change (MS-CFB 2.6).
use Rattle.std.specs.Prelude.{ℕ, ◌≡◌, ◌≢◌, ◌<◌, List, true, length, slice_index, Contains}
use Rattle.cfb_format.specs.declared.error.Error.{Error}
use Rattle.cfb_format.specs.declared.validate.Validation.{Validation}
use Rattle.cfb_format.specs.declared.objtype.ObjType.TheVariants.{Unallocated}
use Rattle.cfb_format.specs.Bytes.{sector_len}
use Rattle.cfb_format.specs.Refused.{AfterMedium}
use Rattle.cfb_format.specs.Siblings.{entry_at}
use Rattle.cfb_sectors.specs.Sectors.{SectorStays}
use Rattle.cfb_directory.specs.cfb_siblings.Children.{HasChildren, HasRedApart}
use Rattle.cfb_slots.specs.Slots.{slot_of}
use Rattle.cfb_directory.specs.State.{DirectoryState, HoldsDirectory, directory_version, directory_bytes}

-- after the medium's error the change was begun; after any other nothing has changed
abbrev pub DirectoryStopsShort : DirectoryState → DirectoryState → Error → Type 0
DirectoryStopsShort old new = AfterMedium (new.table.file.begun ≡ true) (new ≡ old)

-- the directory is in no mode what the bytes hold
abbrev pub IsDirectoryNotHeld : DirectoryState → Type 0
IsDirectoryNotHeld d = (validation : Validation) → HoldsDirectory validation d → ⊥

-- in the file the slots of all used entries stay but those of the storage and of its children
abbrev pub KeepsOtherSlots : ℕ → DirectoryState → DirectoryState → Type 0
KeepsOtherSlots parent old new = (list : List ℕ) → HasChildren old.cases old.entries parent list
    → (k : ℕ) → k < length old.entries → (entry_at old.entries k).obj_type ≢ Unallocated → k ≢ parent → (Contains list k → ⊥)
    → slot_of (directory_version old) (directory_bytes new) old.sectors k ≡ slot_of (directory_version old) (directory_bytes old) old.sectors k

-- and here those of all entries but one
abbrev pub KeepsSlotsBut : ℕ → DirectoryState → DirectoryState → Type 0
KeepsSlotsBut number old new = (k : ℕ) → k < length old.entries → k ≢ number
    → slot_of (directory_version old) (directory_bytes new) old.sectors k ≡ slot_of (directory_version old) (directory_bytes old) old.sectors k

-- a black top and no red under a red stay with the children of the storage
abbrev pub StaysRedApart : DirectoryState → DirectoryState → ℕ → Type 0
StaysRedApart old new parent = (list : List ℕ) → HasChildren old.cases old.entries parent list → HasRedApart old.entries parent list
    → (after : List ℕ) × HasChildren new.cases new.entries parent after × HasRedApart new.entries parent after

-- every byte of the header stays, and of what fills the place of a sector behind it
abbrev pub KeepsWholeHeader : DirectoryState → DirectoryState → Type 0
KeepsWholeHeader old new = (i : ℕ) → i < length (directory_bytes old) → i < sector_len (directory_version old) → slice_index (directory_bytes new) i ≡ slice_index (directory_bytes old) i

-- of the file's sectors those of the directory alone change, be the others in use or free
abbrev pub KeepsOtherSectors : DirectoryState → DirectoryState → Type 0
KeepsOtherSectors old new = (i : ℕ) → (Contains old.sectors i → ⊥) → SectorStays (directory_version old) i (directory_bytes old) (directory_bytes new)
