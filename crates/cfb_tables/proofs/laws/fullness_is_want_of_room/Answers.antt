use Rattle.cfb_tables.proofs.FullLemmas.{full-is-too-few, too-few-is-no-room, enough-is-room}
use Rattle.cfb_tables.proofs.laws.fullness_is_want_of_room.Goals as goal

pub returns-clause-full : goal.returns-clause-full
returns-clause-full c = full-is-too-few

pub returns-clause-few : goal.returns-clause-few
returns-clause-few c = too-few-is-no-room

pub returns-clause-enough : goal.returns-clause-enough
returns-clause-enough c = enough-is-room
