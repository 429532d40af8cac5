use Rattle.std.proofs.Common.{◌≡◌, ◌++◌, ℕ, List, IsTrue, drop, length}
use Rattle.std.specs.Prelude.{flat_map}
use Rattle.cfb_format.specs.Bytes.{entries_per_sector, sector_start}
use Rattle.cfb_mending.specs.Missing.{kinds_from, kinds_of}
use Rattle.cfb_mending.proofs.scan.Scan.kinds.Given as goal

abbrev pub invariant-loop-sector : goal.invariant-loop-sector
invariant-loop-sector g l =
    let version = l.tables.bounds.version in
    record {
      same : IsTrue g.F.ReadMedium.tells → g.F.ReadMedium.bytes l.self.medium ≡ g.F.ReadMedium.bytes l.fn.self.medium;
      stays : l.self.patches.items ≡ l.fn.self.patches.items;
      exact : IsTrue g.F.ReadMedium.tells → (bytes : List ℕ) → g.F.ReadMedium.bytes l.fn.self.medium ≡ bytes → l.tables.bounds.len ≡ length bytes
          → l.kinds.items ++ flat_map (λ (s : ℕ). kinds_from bytes (sector_start version s) (entries_per_sector version)) (drop l.sector-index l.directory) ≡ kinds_of version bytes l.directory;
    }
