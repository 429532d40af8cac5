use Rattle.cfb_format.proofs.Ordered.{Means-IsOrdered}
use Rattle.cfb_format.proofs.laws.meant_trees_are_ordered.Goals as goal

pub returns : goal.returns
returns c = Means-IsOrdered
