use Rattle.cfb_alloc.proofs.SoundTables.{sound-held, strict-held, held-strict}
use Rattle.cfb_alloc.proofs.laws.sound_tables_are_held.Goals as goal

pub returns-clause-sound : goal.returns-clause-sound
returns-clause-sound c = sound-held

pub returns-clause-strict : goal.returns-clause-strict
returns-clause-strict c = strict-held

pub returns-clause-taken : goal.returns-clause-taken
returns-clause-taken c = held-strict
