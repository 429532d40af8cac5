use Rattle.cfb_rules.proofs.LegalRuns.{trees_legal}
use Rattle.cfb_rules.proofs.laws.runs_are_legal.Goals as goal

pub returns : goal.returns
returns g c = trees_legal g.S.Seen.seen g.S.Seen.promised
