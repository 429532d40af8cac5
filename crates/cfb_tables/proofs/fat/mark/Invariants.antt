use Rattle.std.proofs.Common.{◌≡◌, length, take}
use Rattle.cfb_tables.proofs.FatLemmas.{Marked}
use Rattle.cfb_tables.proofs.fat.mark.Given as goal

abbrev pub invariant-loop-sector : goal.invariant-loop-sector
invariant-loop-sector l = record {
  len : length l.fat ≡ length l.initial.fat;
  marked : Marked l.initial.fat l.fat (take l.sector-index l.listed) l.mark;
}
