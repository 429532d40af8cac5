use Rattle.std.proofs.Common.{◌≡◌, ◌++◌, ℕ, List, IsTrue, drop, length}
use Rattle.std.specs.Prelude.{flat_map}
use Rattle.std.specs.List.{All}
use Rattle.cfb_format.specs.Bytes.{sector_start, words_per_sector}
use Rattle.cfb_mending.specs.Missing.{chain_mark, marked}
use Rattle.cfb_mending.specs.Tables.{AreInTables, IsTableSector}
use Rattle.cfb_mending.proofs.scan.Scan.mend_minifat.Given as goal

abbrev pub invariant-loop-sector : goal.invariant-loop-sector
invariant-loop-sector g l =
    let version = l.tables.bounds.version in
    record {
      same : IsTrue g.F.ReadMedium.tells → g.F.ReadMedium.bytes l.self.medium ≡ g.F.ReadMedium.bytes l.fn.self.medium;
      mends : IsTrue g.F.ReadMedium.tells
          → All (IsTableSector l.tables.bounds.version (g.F.ReadMedium.bytes l.fn.self.medium) l.tables.fat.items) l.minifat
          → AreInTables l.tables.bounds.version (g.F.ReadMedium.bytes l.fn.self.medium) l.tables.fat.items l.fn.self.patches.items
          → AreInTables l.tables.bounds.version (g.F.ReadMedium.bytes l.fn.self.medium) l.tables.fat.items l.self.patches.items;
      exact : IsTrue g.F.ReadMedium.tells → (bytes : List ℕ) → g.F.ReadMedium.bytes l.fn.self.medium ≡ bytes → l.tables.bounds.len ≡ length bytes
          → l.self.patches.items ++ flat_map (λ (s : ℕ). marked (chain_mark l.len bytes (sector_start version s)) (sector_start version s) (words_per_sector version)) (drop l.sector-index l.minifat) ≡ l.fn.self.patches.items ++ flat_map (λ (s : ℕ). marked (chain_mark l.len bytes (sector_start version s)) (sector_start version s) (words_per_sector version)) l.minifat;
    }
