use Rattle.std.proofs.Common.{◌≡◌, ℕ, ◌+◌, ◌*◌, ◌<◌, ◌≤◌, ◌-◌, ◌^◌, min, slice_index}
use Rattle.cfb_format.specs.Bytes.{sector_len, sector_start}
use Rattle.cfb_content.proofs.in_sectors.counted_in_sectors.Given as goal

abbrev pub invariant-loop-sector : goal.invariant-loop-sector
invariant-loop-sector g l = record {
  there : l.there ≡ min (l.sector-index * sector_len l.fn.allocator.tables.version) (2 ^ 64 - 1);
  full : (i : ℕ) → i < l.sector-index → sector_start l.fn.allocator.tables.version (slice_index l.ids i) + sector_len l.fn.allocator.tables.version ≤ l.fn.allocator.file.len;
}
