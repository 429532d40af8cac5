use Rattle.cfb_making.proofs.Made.{tree_made}
use Rattle.cfb_making.proofs.commands_make_the_tree.Goals as goal

pub returns : goal.returns
returns c = tree_made
