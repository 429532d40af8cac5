use Rattle.cfb_format.proofs.Unique.{Reads-unique, Means-unique}
use Rattle.cfb_format.proofs.laws.bytes_mean_at_most_one_tree.Goals as goal

pub returns-clause-reading : goal.returns-clause-reading
returns-clause-reading c = Reads-unique

pub returns-clause-tree : goal.returns-clause-tree
returns-clause-tree c = Means-unique
