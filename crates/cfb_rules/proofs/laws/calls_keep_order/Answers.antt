use Rattle.cfb_rules.proofs.OrderKept.{Step-IsOrdered}
use Rattle.cfb_rules.proofs.laws.calls_keep_order.Goals as goal

pub returns : goal.returns
returns c = Step-IsOrdered
