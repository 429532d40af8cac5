use Rattle.cfb_slots.proofs.SlotPlaces.{header-outside}
use Rattle.cfb_slots.proofs.SlotWrites.{slots-stay, fresh-held, entries-stay}
use Rattle.cfb_slots.proofs.laws.slots_follow_changes.Goals as goal

pub returns-clause-stay : goal.returns-clause-stay
returns-clause-stay c = slots-stay

pub returns-clause-fresh : goal.returns-clause-fresh
returns-clause-fresh c = fresh-held

pub returns-clause-entries : goal.returns-clause-entries
returns-clause-entries c = entries-stay

pub returns-clause-header : goal.returns-clause-header
returns-clause-header c = header-outside
