use Rattle.cfb_tables.proofs.RoomLemmas.{nothing-given-back, too-few-is-no-room-after, enough-is-room-after, more-is-too-few, room-in-turn, all-taken-is-full}
use Rattle.cfb_tables.proofs.laws.room_can_be_asked_for.Goals as goal

pub returns-clause-nothing_back : goal.returns-clause-nothing_back
returns-clause-nothing_back c = nothing-given-back

pub returns-clause-few : goal.returns-clause-few
returns-clause-few c = too-few-is-no-room-after

pub returns-clause-enough : goal.returns-clause-enough
returns-clause-enough c = enough-is-room-after

pub returns-clause-more : goal.returns-clause-more
returns-clause-more c = more-is-too-few

pub returns-clause-in_turn : goal.returns-clause-in_turn
returns-clause-in_turn c = room-in-turn

pub returns-clause-all_taken : goal.returns-clause-all_taken
returns-clause-all_taken c = all-taken-is-full
