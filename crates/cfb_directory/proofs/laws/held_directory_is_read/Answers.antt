use Rattle.cfb_directory.proofs.HeldDirectory.{held-directory-is-read, held-directory-is-strict}
use Rattle.cfb_directory.proofs.laws.held_directory_is_read.Goals as goal

pub returns-clause-read : goal.returns-clause-read
returns-clause-read c = held-directory-is-read

pub returns-clause-strict : goal.returns-clause-strict
returns-clause-strict c = held-directory-is-strict
