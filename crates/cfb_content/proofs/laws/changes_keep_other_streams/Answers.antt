use Rattle.cfb_content.proofs.Kept.{kept-mini-spared, nothing-is-moved, others-kept-then, spared-is-kept, spared-sectors-kept}
use Rattle.cfb_content.proofs.laws.changes_keep_other_streams.Goals as goal

pub returns-clause-nothing : goal.returns-clause-nothing
returns-clause-nothing c = nothing-is-moved

pub returns-clause-in_turn : goal.returns-clause-in_turn
returns-clause-in_turn c = others-kept-then

pub returns-clause-spared : goal.returns-clause-spared
returns-clause-spared c = spared-is-kept

pub returns-clause-mini : goal.returns-clause-mini
returns-clause-mini c = kept-mini-spared

pub returns-clause-sectors : goal.returns-clause-sectors
returns-clause-sectors c = spared-sectors-kept
