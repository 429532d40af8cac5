-- What a clearing leaves alone of the directory's slots (MS-CFB 2.6).
use Rattle.std.specs.Prelude.{ℕ, ◌≡◌, ◌<◌, List, length, Contains}
use Rattle.cfb_slots.specs.Slots.{slot_of}
use Rattle.cfb_directory.specs.State.{DirectoryState, directory_version, directory_bytes}

-- in the file the slots of all entries stay but those of the list
abbrev pub KeepsSlotsOutside : List ℕ → DirectoryState → DirectoryState → Type 0
KeepsSlotsOutside list old new = (k : ℕ) → k < length old.entries → (Contains list k → ⊥)
    → slot_of (directory_version old) (directory_bytes new) old.sectors k ≡ slot_of (directory_version old) (directory_bytes old) old.sectors k
