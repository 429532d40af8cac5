use Rattle.std.proofs.Common.{◌≡◌, take}
use Rattle.std.specs.Prelude.{IsTrue}
use Rattle.cfb_codecs.specs.EntryModel.{entries_of}
use Rattle.cfb_alloc.specs.Alloc.{IsMeasured}
use Rattle.cfb_reading.proofs.SlotReading.{HasReadSlots}
use Rattle.cfb_reading.proofs.slots.read_entries.Given as goal

abbrev pub invariant-loop-sector : goal.invariant-loop-sector
invariant-loop-sector g l = record {
  tables : l.allocator.tables ≡ l.fn.allocator.tables;
  kept : l.allocator.file ≡ record l.fn.allocator.file { bytes = l.allocator.file.bytes; failures = l.allocator.file.failures };
  same : IsTrue g.F.ReadMedium.tells → l.allocator ≡ l.fn.allocator;
  read : HasReadSlots g.F.ReadMedium.tells (IsMeasured l.fn.allocator.file) l.validation l.fn.allocator.tables.version l.fn.allocator.file.bytes
      (take l.sector-index l.sector-items) (entries_of l.entries.items);
}
