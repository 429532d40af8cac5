use Rattle.cfb_sectors.proofs.FreshLemmas.{zeros_fresh}
use Rattle.cfb_sectors.proofs.sector.fresh_sector.Goals as goal

pub returns-in-Zero : goal.returns-in-Zero
returns-in-Zero c = rw c.in-Zero.is (zeros_fresh c.args.version c.zeros-bytes.result c.zeros-bytes.ensures)
