use Rattle.std.proofs.Common.{◌≡◌, ◌*◌, take}
use Rattle.std.specs.Prelude.{IsTrue, vec_len}
use Rattle.cfb_format.specs.Bytes.{words_per_sector}
use Rattle.cfb_alloc.specs.Alloc.{IsMeasured}
use Rattle.cfb_reading.proofs.WordReading.{HasReadWords}
use Rattle.cfb_reading.proofs.minifat.read_minifat_words.Given as goal

abbrev pub invariant-loop-sector : goal.invariant-loop-sector
invariant-loop-sector g l = record {
  tables : l.allocator.tables ≡ l.fn.allocator.tables;
  kept : l.allocator.file ≡ record l.fn.allocator.file { bytes = l.allocator.file.bytes; failures = l.allocator.file.failures };
  same : IsTrue g.F.ReadMedium.tells → l.allocator ≡ l.fn.allocator;
  count : vec_len l.words ≡ l.sector-index * words_per_sector l.fn.allocator.tables.version;
  read : HasReadWords g.F.ReadMedium.tells (IsMeasured l.fn.allocator.file) l.fn.allocator.tables.version l.fn.allocator.file.bytes (take l.sector-index l.sector-items) l.words.items;
}
