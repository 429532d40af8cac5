use Rattle.cfb_objects.proofs.Becoming.{tree-becomes}
use Rattle.cfb_objects.proofs.laws.bytes_mean_the_changed_tree.Goals as goal

pub returns : goal.returns
returns c = tree-becomes
