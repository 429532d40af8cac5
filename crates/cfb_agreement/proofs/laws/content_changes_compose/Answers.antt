use Rattle.cfb_agreement.proofs.InTurn.{as-before-is-none, contents-in-turn, one-change-keeps-rest, rest-then, same-content-is-none}
use Rattle.cfb_agreement.proofs.laws.content_changes_compose.Goals as goal

pub returns-clause-none : goal.returns-clause-none
returns-clause-none c = same-content-is-none

pub returns-clause-as_before : goal.returns-clause-as_before
returns-clause-as_before c = as-before-is-none

pub returns-clause-in_turn : goal.returns-clause-in_turn
returns-clause-in_turn c = contents-in-turn

pub returns-clause-rest : goal.returns-clause-rest
returns-clause-rest c = one-change-keeps-rest

pub returns-clause-rest_in_turn : goal.returns-clause-rest_in_turn
returns-clause-rest_in_turn c = rest-then
