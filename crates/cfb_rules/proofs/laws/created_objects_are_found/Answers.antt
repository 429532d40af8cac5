use Rattle.cfb_rules.proofs.CreatedFound.{created_stream, created_storage, added_storage}
use Rattle.cfb_rules.proofs.FoundAfter.{emptied_stream}
use Rattle.cfb_rules.proofs.laws.created_objects_are_found.Goals as goal

pub returns-clause-new_stream : goal.returns-clause-new_stream
returns-clause-new_stream c = created_stream

pub returns-clause-emptied_stream : goal.returns-clause-emptied_stream
returns-clause-emptied_stream c = emptied_stream

pub returns-clause-new_storage : goal.returns-clause-new_storage
returns-clause-new_storage c = created_storage

pub returns-clause-added_storage : goal.returns-clause-added_storage
returns-clause-added_storage c = added_storage
