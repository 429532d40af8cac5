-- A directory whose entries changed in memory, and whose slots were written.
use Rattle.std.proofs.Common.{◌≡◌, ◌≢◌, inl, inr, ℕ, ◌<◌, List, [], ◌∷◌, ◌++◌, sym, ◌∙◌, ap, length, arith}
use Rattle.std.specs.Prelude.{Contains}
use Rattle.cfb_format.specs.declared.validate.Validation.{Validation}
use Rattle.cfb_format.specs.declared.objtype.ObjType.TheVariants.{Unallocated}
use Rattle.cfb_format.specs.DirectoryEntry.{Entry, EntryFits, IsValidEntry}
use Rattle.cfb_format.specs.Names.{Cases}
use Rattle.cfb_format.specs.Siblings.{entry_at}
use Rattle.cfb_directory.specs.cfb_outline.Outlines.{IsReachedStorage}
use Rattle.cfb_directory.specs.cfb_siblings.Children.{HasChildren}
use Rattle.cfb_directory.specs.cfb_siblings.Touched.{Touches, TouchesOnly}
use Rattle.cfb_alloc.specs.Alloc.{AllocatorState, HoldsTables}
use Rattle.cfb_entries.specs.EntryList.{InsertsEntry}
use Rattle.cfb_slots.specs.Slots.{ChangesSlots, HoldSlotsBut, slot_of}
use Rattle.cfb_directory.specs.State.{DirectoryState, HoldsDirectory, directory_bytes, directory_tables, directory_version}
use Rattle.cfb_slots.proofs.SlotWrites.{entries-stay}
use Rattle.cfb_directory.proofs.InsertLinks.{touched-stands, writable-inserted}
use Rattle.cfb_directory.proofs.Placed.{header_left, slot_left}
use Rattle.cfb_directory.proofs.Rewritten.{rewritten}
use Rattle.cfb_format.proofs.Members.{Contains-nil}
use Rattle.cfb_directory.proofs.cfb_outline.Insides.{first-or-later}

-- ---- an insertion

module _ (old : DirectoryState) (entries : List Entry) (parent n : ℕ) (entry : Entry) (touched : List ℕ) (reached : IsReachedStorage old.cases old.entries parent)
    (i : InsertsEntry old.cases old.entries entries parent n entry) (touches : Touches old.entries entries touched)
    (only : (list : List ℕ) → HasChildren old.cases old.entries parent list → TouchesOnly parent (n ∷ list) touched) where
  -- one slot at least is touched
  pub some-touched : entry.obj_type ≢ Unallocated → 0 < length touched
  some-touched used = some touched (λ out.
      let same : entry_at entries n ≡ entry_at old.entries n = touches.told n out in
      used (sym (ap (λ (e : Entry). e.obj_type) i.inserted.entry_kept) ∙ ap (λ (e : Entry). e.obj_type) same ∙ i.was_free))
    where
      some : (list : List ℕ) → ((Contains list n → ⊥) → ⊥) → 0 < length list
      some [] has = absurd (has (λ m. Contains-nil n m))
      some (x ∷ xs) has = omega arith

  module _ (validation : Validation) (held : HoldsDirectory validation old) (stands : EntryFits entry × IsValidEntry (directory_version old) entry) where
    pub late-slots : HoldSlotsBut (touched ++ []) validation (directory_version old) (directory_bytes old) old.sectors entries
    late-slots = entries-stay touched [] validation (directory_version old) (directory_bytes old) old.sectors old.entries entries held.slots i.inserted.longer touches.told

    pub touched-valid : (k : ℕ) → Contains touched k → IsValidEntry (directory_version old) (entry_at entries k)
    touched-valid k m =
        (touched-stands (directory_version old) old.cases old.entries entries parent n entry reached i held.most stands held.writable k
        (only (i.before ++ i.behind) i.inserted.was k m)).1

    pub put-holds : (table : AllocatorState) (cases : Cases) → table.tables ≡ directory_tables old → HoldsTables validation table
        → HoldSlotsBut [] validation (directory_version old) table.file.bytes old.sectors entries → ChangesSlots touched (directory_version old) old.sectors (directory_bytes old) table.file.bytes
        → HoldsDirectory validation (record { table = table; sectors = old.sectors; cases = cases; entries = entries })
    put-holds table cases same holds slots change =
        rewritten validation old table cases entries held same holds change.no_shorter (header_left touched (directory_version old) old.sectors (directory_bytes old) table.file.bytes change) slots
        (writable-inserted (directory_version old) old.cases old.entries entries parent n entry reached i held.most stands held.writable) i.inserted.longer

  -- the slots of all used entries stay but those of the storage and of its children
  pub put-keeps : (validation : Validation) → HoldsDirectory validation old → (new : List ℕ) → ChangesSlots touched (directory_version old) old.sectors (directory_bytes old) new
      → (list : List ℕ) → HasChildren old.cases old.entries parent list → (k : ℕ) → k < length old.entries → (entry_at old.entries k).obj_type ≢ Unallocated
      → k ≢ parent → (Contains list k → ⊥) → slot_of (directory_version old) new old.sectors k ≡ slot_of (directory_version old) (directory_bytes old) old.sectors k
  put-keeps validation held new change list children k lt used no_parent out =
      let count = held.slots.count in
      let longer = i.inserted.longer in
      slot_left touched (directory_version old) old.sectors (directory_bytes old) new k held.chain.distinct held.whole change
      (λ t m. let w = touches.within t m in omega (arith, w, longer, count)) (omega (arith, lt, count))
      (λ m. elim (only list children k m) [
        | inl e ↦ no_parent e
        | inr c ↦ elim (first-or-later n list k c) [ inl e ↦ used (ap (λ j. (entry_at old.entries j).obj_type) e ∙ i.was_free) | inr s ↦ out s ]
      ])
