use Rattle.cfb_reports.proofs.Leading.{paths-lead}
use Rattle.cfb_reports.proofs.laws.paths_lead_to_their_streams.Goals as goal

pub returns : goal.returns
returns c = paths-lead
