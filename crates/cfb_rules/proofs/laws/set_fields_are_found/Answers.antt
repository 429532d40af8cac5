use Rattle.cfb_rules.proofs.FoundAfter.{clsid_set, state_bits_set, created_time_set, modified_time_set, touched_time_set, root_untouched}
use Rattle.cfb_rules.proofs.laws.set_fields_are_found.Goals as goal

pub returns-clause-clsid : goal.returns-clause-clsid
returns-clause-clsid c = clsid_set

pub returns-clause-state_bits : goal.returns-clause-state_bits
returns-clause-state_bits c = state_bits_set

pub returns-clause-created : goal.returns-clause-created
returns-clause-created c = created_time_set

pub returns-clause-modified : goal.returns-clause-modified
returns-clause-modified c = modified_time_set

pub returns-clause-touched : goal.returns-clause-touched
returns-clause-touched c = touched_time_set

pub returns-clause-root : goal.returns-clause-root
returns-clause-root c = root_untouched
