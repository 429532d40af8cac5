use Rattle.cfb_format.proofs.TreeMap.{put_is_found, object_named-without}
use Rattle.cfb_format.proofs.laws.storages_are_maps.Goals as goal

pub returns-clause-put : goal.returns-clause-put
returns-clause-put c = put_is_found

pub returns-clause-removed : goal.returns-clause-removed
returns-clause-removed c = object_named-without
