use Rattle.std.proofs.Common.{◌≡◌, ◌++◌, ℕ, List, IsTrue, drop, length}
use Rattle.cfb_mending.specs.Missing.{fat_patches, known_of}
use Rattle.cfb_mending.specs.Tables.{AreInTables}
use Rattle.cfb_mending.proofs.scan.Scan.mend_fat.Given as goal

abbrev pub invariant-loop-sector : goal.invariant-loop-sector
invariant-loop-sector g l =
    let version = l.tables.bounds.version in
    let fat = l.tables.fat.items in
    let known = known_of version l.tables.bounds.sectors fat in
    record {
      same : IsTrue g.F.ReadMedium.tells → g.F.ReadMedium.bytes l.self.medium ≡ g.F.ReadMedium.bytes l.fn.self.medium;
      mends : IsTrue g.F.ReadMedium.tells
          → AreInTables l.tables.bounds.version (g.F.ReadMedium.bytes l.fn.self.medium) l.tables.fat.items l.fn.self.patches.items
          → AreInTables l.tables.bounds.version (g.F.ReadMedium.bytes l.fn.self.medium) l.tables.fat.items l.self.patches.items;
      exact : IsTrue g.F.ReadMedium.tells → (bytes : List ℕ) → g.F.ReadMedium.bytes l.fn.self.medium ≡ bytes → l.tables.bounds.len ≡ length bytes
          → l.self.patches.items ++ fat_patches version bytes known (drop l.sector-index fat) l.left ≡ l.fn.self.patches.items ++ fat_patches version bytes known fat l.tables.bounds.sectors;
    }
