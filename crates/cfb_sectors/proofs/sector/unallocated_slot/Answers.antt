use Rattle.cfb_sectors.proofs.FreshLemmas.{unallocated}
use Rattle.cfb_sectors.proofs.sector.unallocated_slot.Goals as goal

pub returns : goal.returns
returns c = unallocated c.put.result _ c.put.ensures.end c.put.ensures.before c.put.ensures.after
