use Rattle.cfb_places.proofs.Stood.{parents-come-first, places-are-the-walk}
use Rattle.cfb_places.proofs.laws.places_are_the_walk.Goals as goal

pub returns-clause-walk : goal.returns-clause-walk
returns-clause-walk c = places-are-the-walk

pub returns-clause-parents : goal.returns-clause-parents
returns-clause-parents c = parents-come-first
