use Rattle.std.proofs.Common.{◌≡◌, ◌++◌, ℕ, List, IsTrue, drop, length}
use Rattle.std.specs.Prelude.{flat_map}
use Rattle.std.specs.List.{All}
use Rattle.cfb_mending.specs.Missing.{links_in}
use Rattle.cfb_mending.specs.Tables.{AreInTables, IsTableSector}
use Rattle.cfb_mending.proofs.scan.Scan.mend_slots.Given as goal

abbrev pub invariant-loop-sector : goal.invariant-loop-sector
invariant-loop-sector g l =
    let version = l.tables.bounds.version in
    record {
      same : IsTrue g.F.ReadMedium.tells → g.F.ReadMedium.bytes l.self.medium ≡ g.F.ReadMedium.bytes l.fn.self.medium;
      mends : IsTrue g.F.ReadMedium.tells
          → All (IsTableSector l.tables.bounds.version (g.F.ReadMedium.bytes l.fn.self.medium) l.tables.fat.items) l.directory
          → AreInTables l.tables.bounds.version (g.F.ReadMedium.bytes l.fn.self.medium) l.tables.fat.items l.fn.self.patches.items
          → AreInTables l.tables.bounds.version (g.F.ReadMedium.bytes l.fn.self.medium) l.tables.fat.items l.self.patches.items;
      exact : IsTrue g.F.ReadMedium.tells → (bytes : List ℕ) → g.F.ReadMedium.bytes l.fn.self.medium ≡ bytes → l.tables.bounds.len ≡ length bytes
          → l.self.patches.items ++ flat_map (links_in version bytes l.kinds) (drop l.sector-index l.directory) ≡ l.fn.self.patches.items ++ flat_map (links_in version bytes l.kinds) l.directory;
    }
