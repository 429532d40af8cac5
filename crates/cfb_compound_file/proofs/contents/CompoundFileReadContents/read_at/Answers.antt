use Rattle.cfb_compound_file.proofs.StoredStreams.{agrees_as_before, stream_inside, stream_stays}
use Rattle.cfb_compound_file.proofs.Heeding.{remembered_is, setting_is}
use Rattle.cfb_compound_file.proofs.contents.CompoundFileReadContents.read_at.Goals as goal

pub read-requires : goal.read-requires
read-requires g c = record { inside = stream_inside _ _ (rw (← c.self.view_is) at c.requires.there) }

pub invariant_of-self : goal.invariant_of-self
invariant_of-self g c = λ told. agrees_as_before _ _ (c.read.ensures.stays.same told) (c.self.invariant told)

pub returns-clause-there : goal.returns-clause-there
returns-clause-there g c = stream_stays _ _ _ c.read.ensures.stays.entries c.read.ensures.stays.setting.limits.cases (rw (← c.self.view_is) at c.requires.there)

pub returns-clause-any : goal.returns-clause-any
returns-clause-any g c = rw (← c.self.view_is) (record { setting = setting_is _ _ c.read.ensures.stays.setting; remembered = remembered_is _ _ c.read.ensures.stays.in_memory; failed = c.read.ensures.stays.flag })
