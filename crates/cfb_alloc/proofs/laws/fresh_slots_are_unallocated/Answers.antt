use Rattle.cfb_alloc.proofs.FreshSlots.{fresh-slots}
use Rattle.cfb_alloc.proofs.laws.fresh_slots_are_unallocated.Goals as goal

pub returns : goal.returns
returns c = fresh-slots
