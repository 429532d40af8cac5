use Rattle.cfb_slots.proofs.SlotLists.{by-place, at-places}
use Rattle.cfb_slots.proofs.laws.slots_are_read_by_places.Goals as goal

pub returns-clause-by_place : goal.returns-clause-by_place
returns-clause-by_place c = by-place

pub returns-clause-at_places : goal.returns-clause-at_places
returns-clause-at_places c = at-places
