use Rattle.std.proofs.Common.{refl}
use Rattle.cfb_compound_file.specs.cfb_rules.Calls.{root_entry}
use Rattle.cfb_compound_file.proofs.Numbers.{memory-refused, ok-then, root-is-object}
use Rattle.cfb_compound_file.proofs.Told.{root-answered}
use Rattle.cfb_compound_file.proofs.compound_file.CompoundFile.root_entry.Goals as goal

pub told_at-requires : goal.told_at-requires
told_at-requires g c = root-is-object c.args.self.now

pub returns-clause-ok : goal.returns-clause-ok
returns-clause-ok g c = λ told. ok-then _ _ c.told_at.result (λ info is. root-answered c.args.self.now (c.told_at.ensures.agrees told) info is) c.told_at.ensures.ok

pub returns-clause-refused : goal.returns-clause-refused
returns-clause-refused g c = λ told. memory-refused c.args.self.now root_entry c.told_at.result refl c.told_at.ensures.err
