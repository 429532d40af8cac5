use Rattle.std.proofs.Common.{refl}
use Rattle.cfb_compound_file.specs.cfb_rules.Calls.{read_root_storage}
use Rattle.cfb_listing.specs.Left.{entries_left}
use Rattle.cfb_compound_file.proofs.Numbers.{memory-refused, ok-then, root-is-storage}
use Rattle.cfb_compound_file.proofs.Told.{read-root-answered}
use Rattle.cfb_compound_file.proofs.compound_file.CompoundFile.read_root_storage.Goals as goal

pub children_at-requires : goal.children_at-requires
children_at-requires g c = root-is-storage c.args.self.now

pub returns-clause-ok : goal.returns-clause-ok
returns-clause-ok g c = λ told. ok-then _ _ c.children_at.result (λ list lists. read-root-answered c.args.self.now (c.children_at.ensures.agrees told) (entries_left list) lists) c.children_at.ensures.ok

pub returns-clause-refused : goal.returns-clause-refused
returns-clause-refused g c = λ told. memory-refused c.args.self.now read_root_storage c.children_at.result refl c.children_at.ensures.err
