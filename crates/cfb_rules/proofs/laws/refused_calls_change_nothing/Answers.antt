use Rattle.cfb_rules.proofs.CallSteps.{Step-refused}
use Rattle.cfb_rules.proofs.StreamSteps.{StreamStep-refused}
use Rattle.cfb_rules.proofs.laws.refused_calls_change_nothing.Goals as goal

pub returns-clause-by_path : goal.returns-clause-by_path
returns-clause-by_path c = Step-refused

pub returns-clause-on_stream : goal.returns-clause-on_stream
returns-clause-on_stream c = StreamStep-refused
