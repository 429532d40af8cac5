use Rattle.cfb_places.proofs.Stood.{names-are-valid}
use Rattle.cfb_places.proofs.laws.names_are_valid.Goals as goal

pub returns : goal.returns
returns c = names-are-valid
