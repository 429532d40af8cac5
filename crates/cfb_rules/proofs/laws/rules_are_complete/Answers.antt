use Rattle.cfb_rules.proofs.CallSteps.{Step-some, Step-one}
use Rattle.cfb_rules.proofs.StreamBounds.{StreamStep-some}
use Rattle.cfb_rules.proofs.laws.rules_are_complete.Goals as goal

pub returns-clause-some : goal.returns-clause-some
returns-clause-some c = Step-some

pub returns-clause-one : goal.returns-clause-one
returns-clause-one c = Step-one

pub returns-clause-on_stream : goal.returns-clause-on_stream
returns-clause-on_stream c = StreamStep-some
