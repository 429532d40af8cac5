use Rattle.cfb_reports.proofs.True.{uses-are-true}
use Rattle.cfb_reports.proofs.laws.owners_on_a_map_are_true.Goals as goal

pub returns : goal.returns
returns c = uses-are-true
