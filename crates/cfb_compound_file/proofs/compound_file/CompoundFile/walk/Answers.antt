use Rattle.std.proofs.Common.{refl}
use Rattle.cfb_compound_file.specs.cfb_rules.Calls.{walk}
use Rattle.cfb_listing.specs.Left.{entries_left}
use Rattle.cfb_compound_file.proofs.Numbers.{memory-refused, ok-then}
use Rattle.cfb_compound_file.proofs.Told.{walk-answered}
use Rattle.cfb_compound_file.proofs.compound_file.CompoundFile.walk.Goals as goal

pub returns-clause-ok : goal.returns-clause-ok
returns-clause-ok g c = λ told. ok-then _ _ c.walk_root.result (λ list walks. walk-answered c.args.self.now (c.walk_root.ensures.agrees told) (entries_left list) walks) c.walk_root.ensures.ok

pub returns-clause-refused : goal.returns-clause-refused
returns-clause-refused g c = λ told. memory-refused c.args.self.now walk c.walk_root.result refl c.walk_root.ensures.err
