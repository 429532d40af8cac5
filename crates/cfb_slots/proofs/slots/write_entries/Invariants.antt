use Rattle.std.proofs.Common.{◌≡◌, ◌<◌, ◌++◌, ℕ, List, drop, nat_eq}
use Rattle.std.specs.Prelude.{Contains, IsTrue}
use Rattle.std.specs.List.{IsDistinct}
use Rattle.cfb_format.specs.declared.validate.Validation.{Validation}
use Rattle.cfb_format.specs.DirectoryEntry.{IsValidEntry}
use Rattle.cfb_format.specs.Siblings.{entry_at}
use Rattle.cfb_codecs.specs.EntryModel.{entries_of}
use Rattle.cfb_slots.specs.cfb_sectors.Sectors.{IsRaised}
use Rattle.cfb_alloc.specs.Agreement.{HasSectors}
use Rattle.cfb_alloc.specs.Alloc.{HoldsTables}
use Rattle.cfb_alloc.specs.Frame.{Spares}
use Rattle.cfb_alloc.specs.InSector.{IsNoTableSector}
use Rattle.cfb_slots.specs.Slots.{ChangesSlots, HoldSlotsBut}
use Rattle.cfb_slots.proofs.slots.write_entries.Given as goal

abbrev pub invariant-loop-number : goal.invariant-loop-number
invariant-loop-number g l = record {
  tables : l.allocator.tables ≡ l.fn.allocator.tables;
  kept : l.allocator.file ≡ record l.fn.allocator.file {
    len = l.allocator.file.len;
    bytes = l.allocator.file.bytes;
    failures = l.allocator.file.failures;
    begun = l.allocator.file.begun;
  };
  begun : IsRaised (0 < l.number-index) l.fn.allocator.file l.allocator.file;
  holds : IsTrue g.F.ReadMedium.tells → (validation : Validation) → HoldsTables validation l.fn.allocator
      → ((i : ℕ) → Contains l.sectors i → IsNoTableSector l.fn.allocator.tables i) → HoldsTables validation l.allocator;
  slots : IsTrue g.F.ReadMedium.tells → (validation : Validation) → (late : List ℕ)
      → HoldSlotsBut (l.touched ++ late) validation l.fn.allocator.tables.version l.fn.allocator.file.bytes l.sectors (entries_of l.entries)
      → ((k : ℕ) → Contains l.touched k → IsValidEntry l.fn.allocator.tables.version (entry_at (entries_of l.entries) k))
      → HasSectors l.fn.allocator.tables.version l.fn.allocator.file.bytes l.sectors → IsDistinct nat_eq l.sectors
      → HoldSlotsBut (drop l.number-index l.touched ++ late) validation l.fn.allocator.tables.version l.allocator.file.bytes l.sectors (entries_of l.entries);
  spares : IsTrue g.F.ReadMedium.tells → Spares l.sectors l.fn.allocator l.allocator;
  others : IsTrue g.F.ReadMedium.tells → ChangesSlots l.touched l.fn.allocator.tables.version l.sectors l.fn.allocator.file.bytes l.allocator.file.bytes;
  counts : IsTrue g.F.ReadMedium.tells → l.allocator.file.failures ≡ l.fn.allocator.file.failures;
}
