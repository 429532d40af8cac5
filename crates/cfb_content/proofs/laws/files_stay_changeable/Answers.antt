use Rattle.cfb_content.proofs.Lost.{all-used-kept, none-lost-then}
use Rattle.cfb_content.proofs.Sound.{changed-is-changeable, changed-loses-none}
use Rattle.cfb_content.proofs.laws.files_stay_changeable.Goals as goal

pub returns-clause-changeable : goal.returns-clause-changeable
returns-clause-changeable c = changed-is-changeable

pub returns-clause-loses_none : goal.returns-clause-loses_none
returns-clause-loses_none c = changed-loses-none

pub returns-clause-in_turn : goal.returns-clause-in_turn
returns-clause-in_turn c = none-lost-then

pub returns-clause-all_used : goal.returns-clause-all_used
returns-clause-all_used c = all-used-kept
