use Rattle.cfb_rules.proofs.ClosedFound.{closed_found, unsound_stays, others_spared, order_kept}
use Rattle.cfb_rules.proofs.laws.closed_streams_are_found.Goals as goal

pub returns-clause-found : goal.returns-clause-found
returns-clause-found c = closed_found

pub returns-clause-unsound : goal.returns-clause-unsound
returns-clause-unsound c = unsound_stays

pub returns-clause-others : goal.returns-clause-others
returns-clause-others c = others_spared

pub returns-clause-order : goal.returns-clause-order
returns-clause-order c = order_kept
