use Rattle.cfb_mini_table.proofs.LawLemmas.{room-in-turn, prepared-in-turn, room-given-back, prepared-given-back}
use Rattle.cfb_mini_table.proofs.laws.room_follows_changes.Goals as goal

pub returns-clause-taken : goal.returns-clause-taken
returns-clause-taken c = room-in-turn

pub returns-clause-prepared : goal.returns-clause-prepared
returns-clause-prepared c = prepared-in-turn

pub returns-clause-given_back : goal.returns-clause-given_back
returns-clause-given_back c = room-given-back

pub returns-clause-prepared_again : goal.returns-clause-prepared_again
returns-clause-prepared_again c = prepared-given-back
