use Rattle.std.proofs.Common.{◌≡◌, drop}
use Rattle.cfb_mending.specs.Missing.{cut_end}
use Rattle.cfb_mending.proofs.bounds.Bounds.cut_end.Given as goal

abbrev pub invariant-loop-sector : goal.invariant-loop-sector
invariant-loop-sector l = cut_end l.self.version l.self.len (drop l.sector-index l.sectors) ≡ cut_end l.self.version l.self.len l.sectors
