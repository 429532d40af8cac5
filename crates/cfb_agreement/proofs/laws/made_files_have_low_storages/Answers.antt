use Rattle.cfb_agreement.proofs.HeldBytes.{as-made-is-low}
use Rattle.cfb_agreement.proofs.laws.made_files_have_low_storages.Goals as goal

pub returns : goal.returns
returns c = as-made-is-low
