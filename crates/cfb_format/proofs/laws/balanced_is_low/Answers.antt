use Rattle.cfb_format.proofs.Balance.{Balanced-low}
use Rattle.cfb_format.proofs.laws.balanced_is_low.Goals as goal

pub returns : goal.returns
returns c = Balanced-low
