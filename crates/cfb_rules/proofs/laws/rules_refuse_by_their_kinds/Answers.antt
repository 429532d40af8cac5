use Rattle.cfb_rules.specs.Calls.{refused}
use Rattle.cfb_rules.specs.StreamCalls.{not_done}
use Rattle.cfb_rules.proofs.RuleKinds.{Step-rules, StreamStep-rules}
use Rattle.cfb_rules.proofs.laws.rules_refuse_by_their_kinds.Goals as goal

pub returns-clause-by_path : goal.returns-clause-by_path
returns-clause-by_path c = λ cases sound n tree tree' call r. Step-rules cases sound n tree tree' call (refused r)

pub returns-clause-on_stream : goal.returns-clause-on_stream
returns-clause-on_stream c = λ setting old new call r. StreamStep-rules setting old new call (not_done r)
