use Rattle.std.proofs.Common.{◌≡◌, ◌+◌, ◌-◌, ◌*◌, ℕ, List}
use Rattle.cfb_format.specs.Bytes.{sector_start, words_per_sector}
use Rattle.cfb_mending.specs.Missing.{Holds, freed}
use Rattle.cfb_mending.proofs.scan.Scan.free_behind.Given as goal

abbrev pub invariant-loop-index : goal.invariant-loop-index
invariant-loop-index g l =
    let start = sector_start l.version l.sector in
    let words = words_per_sector l.version in
    record {
      same : l.self.medium ≡ l.fn.self.medium;
      stays : l.self.patches.items ≡ l.fn.self.patches.items;
      exact : (bytes : List ℕ) → Holds 4 l.version bytes l.sector l.loaded.bytes l.loaded.len → freed bytes (start + 4 * l.index) (words - l.index) ≡ freed bytes (start + 4 * l.from) (words - l.from);
    }
