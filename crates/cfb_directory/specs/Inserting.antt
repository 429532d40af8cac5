-- What a call that puts a new object into a directory needs, and what it makes of the directory (MS-CFB 2.6).
use Rattle.std.specs.Prelude.{ℕ, ◌≡◌, ◌<◌, ◌⊎◌, List, true, false, length, slice_index, IsTrue}
use Rattle.cfb_format.specs.declared.objtype.ObjType.{ObjType}
use Rattle.cfb_format.specs.declared.objtype.ObjType.TheVariants.{Storage, Stream}
use Rattle.cfb_format.specs.declared.validate.Validation.{Validation}
use Rattle.cfb_format.specs.declared.version.Version.TheVariants.{V4}
use Rattle.cfb_format.specs.Bytes.{word_at}
use Rattle.cfb_format.specs.Names.{is_valid_name}
use Rattle.cfb_codecs.specs.EntryModel.{new_entry}
use Rattle.cfb_directory.specs.cfb_outline.Outlines.{IsReachedStorage}
use Rattle.cfb_directory.specs.cfb_siblings.Children.{HasChildren, IsAbsent, KeepsBalance}
use Rattle.cfb_alloc.specs.Frame.{Spares}
use Rattle.cfb_alloc.specs.ListedChain.{Lengthens}
use Rattle.cfb_entries.specs.EntryList.{InsertsEntry, has_free}
use Rattle.cfb_directory.specs.Growing.{IsListedChain}
use Rattle.cfb_directory.specs.State.{DirectoryState, HoldsDirectory, IsFullForEntry, KeepsDirectoryHeader, directory_bytes, directory_tables, directory_version, with_room}
use Rattle.cfb_directory.specs.Steps.{KeepsOtherSlots, StaysRedApart}

-- a storage or a stream of that valid name can be put into the storage `parent`: no child of it has the name
pub record CanInsert (d : DirectoryState) (parent : ℕ) (name : List ℕ) (kind : ObjType) : Type 0 where
  pub storage : IsReachedStorage d.cases d.entries parent
  pub valid : IsTrue (is_valid_name name)
  pub absent : (list : List ℕ) → HasChildren d.cases d.entries parent list → IsAbsent d.cases d.entries name list
  pub kinds : (kind ≡ Storage) ⊎ (kind ≡ Stream)

-- in memory an empty object of that name and kind was put into the free slot n, and among the children of the storage `parent`, which are in
-- balance still if they were. It could be had: where no slot was free the directory got one sector more, and its sectors are a chain still
-- if they were one. The change was begun
pub record InsertsObject (old new : DirectoryState) (parent n : ℕ) (name : List ℕ) (kind : ObjType) (moment : ℕ) : Type 0 where
  pub entry : InsertsEntry old.cases (with_room old) new.entries parent n (new_entry name kind moment)
  pub balanced : KeepsBalance old.entries new.entries parent
  pub red_apart : StaysRedApart old new parent
  pub enough : IsFullForEntry old → ⊥
  pub lengthened : has_free old.entries ≡ false → Lengthens 1 old.sectors new.sectors (directory_tables old) (directory_tables new)
  pub chain : IsListedChain (directory_tables old) old.sectors → IsListedChain (directory_tables new) new.sectors
  pub begun : new.table.file.begun ≡ true

-- where a slot was free, the directory has the sectors that it had, and the tables are as they were
abbrev pub KeepsSectorsIfFree : DirectoryState → DirectoryState → Type 0
KeepsSectorsIfFree old new = has_free old.entries ≡ true → (new.sectors ≡ old.sectors) × (directory_tables new ≡ directory_tables old)

-- the bytes hold the directory with its new object, in each mode in which they held it before, and where it got a sector the header of
-- version 4 counts it
pub record WritesDirectory (old new : DirectoryState) : Type 0 where
  pub holds : (validation : Validation) → HoldsDirectory validation old → HoldsDirectory validation new
  pub count : directory_version old ≡ V4 → has_free old.entries ≡ false → word_at (directory_bytes new) 40 ≡ length new.sectors

-- however far the call came, of the bytes these stay: all sectors in use but those of the tables and of the directory, the header but
-- what speaks of those, and the slots of all used entries but those of the storage and of its children. Where a slot was free the whole
-- header stays
pub record SparesRest (old new : DirectoryState) (parent : ℕ) : Type 0 where
  pub spares : Spares old.sectors old.table new.table
  pub header : KeepsDirectoryHeader old new
  pub header_kept : has_free old.entries ≡ true → (i : ℕ) → i < 512 → i < length (directory_bytes old) → slice_index (directory_bytes new) i ≡ slice_index (directory_bytes old) i
  pub slots : (validation : Validation) → HoldsDirectory validation old → KeepsOtherSlots parent old new
