use Rattle.cfb_reports.proofs.Counts.{counts-uses}
use Rattle.cfb_reports.proofs.laws.what_is_counted_is_so_used.Goals as goal

pub returns : goal.returns
returns c = counts-uses
