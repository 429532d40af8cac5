use Rattle.cfb_trees.proofs.Same.{fields-keep-outline}
use Rattle.cfb_trees.proofs.laws.fields_keep_the_tree.Goals as goal

pub returns : goal.returns
returns c = fields-keep-outline
