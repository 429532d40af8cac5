use Rattle.std.proofs.Common.{◌≡◌, take}
use Rattle.std.specs.Prelude.{IsTrue}
use Rattle.cfb_format.specs.Fat.{fat_words}
use Rattle.cfb_reading.proofs.raw_fat.read_first.Given as goal

abbrev pub invariant-loop-sector : goal.invariant-loop-sector
invariant-loop-sector g l = record {
  tables : l.allocator.tables ≡ l.fn.allocator.tables;
  kept : l.allocator.file ≡ record l.fn.allocator.file { bytes = l.allocator.file.bytes; failures = l.allocator.file.failures };
  same : IsTrue g.F.ReadMedium.tells → l.allocator ≡ l.fn.allocator;
  words : IsTrue g.F.ReadMedium.tells
      → l.words.items ≡ fat_words l.fn.allocator.tables.version l.fn.allocator.file.bytes (take l.sector-index l.sectors);
}
