use Rattle.cfb_rules.proofs.FoundAfter.{removed_storage, removed_stream, removed_all, root_emptied}
use Rattle.cfb_rules.proofs.laws.removed_objects_are_gone.Goals as goal

pub returns-clause-storage : goal.returns-clause-storage
returns-clause-storage c = removed_storage

pub returns-clause-stream : goal.returns-clause-stream
returns-clause-stream c = removed_stream

pub returns-clause-all : goal.returns-clause-all
returns-clause-all c = removed_all

pub returns-clause-root : goal.returns-clause-root
returns-clause-root c = root_emptied
