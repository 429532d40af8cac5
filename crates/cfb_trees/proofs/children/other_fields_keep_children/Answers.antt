use Rattle.cfb_trees.proofs.InStorages.{other-fields-keep-children}
use Rattle.cfb_trees.proofs.children.other_fields_keep_children.Goals as goal

pub returns : goal.returns
returns c = other-fields-keep-children
