use Rattle.cfb_trees.proofs.Same.{growth-keeps-outline}
use Rattle.cfb_trees.proofs.laws.growth_keeps_the_tree.Goals as goal

pub returns : goal.returns
returns c = growth-keeps-outline
