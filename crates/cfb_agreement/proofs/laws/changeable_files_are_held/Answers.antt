use Rattle.cfb_agreement.proofs.HeldBytes.{changeable-is-held}
use Rattle.cfb_agreement.proofs.laws.changeable_files_are_held.Goals as goal

pub returns : goal.returns
returns c = changeable-is-held
