use Rattle.std.proofs.Common.{◌≡◌, ◌++◌, ℕ, List}
use Rattle.cfb_format.specs.Bytes.{sector_start}
use Rattle.cfb_mending.specs.Missing.{Holds, link_mark, marked}
use Rattle.cfb_mending.specs.Tables.{AreInTables, IsTableSector}
use Rattle.cfb_mending.proofs.scan.Scan.mend_links.Given as goal

abbrev pub invariant-loop-index : goal.invariant-loop-index
invariant-loop-index g l =
    record {
      same : l.self.medium ≡ l.fn.self.medium;
      mends : (bytes fat : List ℕ) → IsTableSector l.version bytes fat l.sector → AreInTables l.version bytes fat l.fn.self.patches.items → AreInTables l.version bytes fat l.self.patches.items;
      exact : (bytes : List ℕ) → Holds 128 l.version bytes l.sector l.loaded.bytes l.loaded.len
          → l.self.patches.items ≡ l.fn.self.patches.items ++ marked (link_mark l.kinds bytes (sector_start l.version l.sector)) (sector_start l.version l.sector) l.index;
    }
