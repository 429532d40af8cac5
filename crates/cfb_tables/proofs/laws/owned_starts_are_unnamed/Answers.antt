use Rattle.cfb_tables.proofs.ClosedLemmas.{chains-closed, marks-closed, closed-together, owned-unnamed}
use Rattle.cfb_tables.proofs.laws.owned_starts_are_unnamed.Goals as goal

pub returns-clause-chains : goal.returns-clause-chains
returns-clause-chains c = chains-closed

pub returns-clause-marks : goal.returns-clause-marks
returns-clause-marks c = marks-closed

pub returns-clause-both : goal.returns-clause-both
returns-clause-both c = closed-together

pub returns-clause-unnamed : goal.returns-clause-unnamed
returns-clause-unnamed c = owned-unnamed
