use Rattle.cfb_directory.proofs.NamesFound.{inserted-is-found, removed-is-gone}
use Rattle.cfb_directory.proofs.laws.names_follow_changes.Goals as goal

pub returns-clause-inserted : goal.returns-clause-inserted
returns-clause-inserted c = inserted-is-found

pub returns-clause-removed : goal.returns-clause-removed
returns-clause-removed c = removed-is-gone
