use Rattle.cfb_directory.proofs.HeldDirectory.{directory-stays-held}
use Rattle.cfb_directory.proofs.laws.directory_stays_held.Goals as goal

pub returns : goal.returns
returns c = directory-stays-held
