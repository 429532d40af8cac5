use Rattle.std.proofs.Common.{arith, ◌*◌}
use Rattle.cfb_sectors.proofs.SectorLemmas.{other_sector}
use Rattle.cfb_sectors.proofs.sector.Sectors.write_word.Goals as goal

pub returns-clause-sectors : goal.returns-clause-sectors
returns-clause-sectors g c told i other =
    other_sector c.args.self.now.version c.args.sector i (4 * c.args.index) _ _ _ _ (omega arith) (c.write_contiguous.ensures.others told) (grind arith) other
