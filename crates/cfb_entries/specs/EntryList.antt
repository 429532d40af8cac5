-- The entries of a directory in memory, and which slots of them are free (MS-CFB 2.6).
use Rattle.std.specs.Prelude.{ℕ, ◌≡◌, ◌<◌, ◌≤◌, List, Bool, true, length, nat_eq, Contains}
use Rattle.std.specs.List.{IsDistinct, list_any}
use Rattle.cfb_format.specs.declared.objtype.ObjType.TheVariants.{Unallocated}
use Rattle.cfb_format.specs.Full.{max_entries, is_unallocated}
use Rattle.cfb_format.specs.Names.{Cases, utf16_units, max_name_len}
use Rattle.cfb_format.specs.DirectoryEntry.{Entry}
use Rattle.cfb_format.specs.Siblings.{entry_at}
use Rattle.cfb_format.specs.Reading.{Outline, IsOutline}
use Rattle.cfb_siblings.specs.Children.{HasChildren, IsChildNamed, HasInserted, HasRemoved}
use Rattle.cfb_format.specs.Tree.{is_same_name}
use Rattle.cfb_format.specs.Bytes.{no_stream}

-- the letters by which names are compared, the entries, and for how many more there is room, with no memory asked for
pub record EntryList : Type 0 where
  pub cases : Cases
  pub entries : List Entry
  pub room : ℕ

-- each name has its place in a slot
abbrev pub HaveShortNames : List Entry → Type 0
HaveShortNames entries = (k : ℕ) → k < length entries → length (utf16_units (entry_at entries k).name) ≤ max_name_len

-- the entries are those of a directory: they have an outline, their names fit into slots, and they are not too many
pub record AreInOrder (cases : Cases) (entries : List Entry) : Type 0 where
  pub outline : Outline
  pub is : IsOutline cases entries outline
  pub names : HaveShortNames entries
  pub few : length entries ≤ max_entries

-- ---- free slots

-- some slot is not used
abbrev pub has_free : List Entry → Bool
has_free entries = list_any (λ e. is_unallocated e.obj_type) entries

-- the list has each slot that is not used, once
pub record ListsFreeSlots (entries : List Entry) (free : List ℕ) : Type 0 where
  pub once : IsDistinct nat_eq free
  pub within : (k : ℕ) → Contains free k → k < length entries
  pub unused : (k : ℕ) → Contains free k → (entry_at entries k).obj_type ≡ Unallocated
  pub all : (k : ℕ) → k < length entries → (entry_at entries k).obj_type ≡ Unallocated → Contains free k

-- ---- changes

-- the entry was put into the slot n, which was free, and at its place among the children of the storage
pub record InsertsEntry (cases : Cases) (old new : List Entry) (parent n : ℕ) (entry : Entry) : Type 0 where
  pub before : List ℕ
  pub behind : List ℕ
  pub inserted : HasInserted cases old new parent n entry before behind
  pub was_free : (entry_at old n).obj_type ≡ Unallocated

-- the storage has a child of that name, and it has no children
abbrev pub IsChildless : Cases → List Entry → ℕ → List ℕ → Type 0
IsChildless cases entries parent name = (number : ℕ) × (list : List ℕ) × HasChildren cases entries parent list
    × IsChildNamed cases entries name list number × ((entry_at entries number).child ≡ no_stream)

-- the child of that name, which had no children, is gone from the storage, and a slot is free now
pub record RemovesEntry (cases : Cases) (old new : List Entry) (parent : ℕ) (name : List ℕ) : Type 0 where
  pub number : ℕ
  pub freed : ℕ
  pub before : List ℕ
  pub behind : List ℕ
  pub after : List ℕ
  pub removed : HasRemoved cases old new parent number freed before behind after
  pub named : is_same_name cases name (entry_at old number).name ≡ true
  pub childless : (entry_at old number).child ≡ no_stream
