use Rattle.std.proofs.Common.{drop}
use Rattle.std.specs.Prelude.{map, chars}
use Rattle.cfb_codecs.specs.EntryModel.{entries_of}
use Rattle.cfb_siblings.proofs.PathWalk.{Walks}
use Rattle.cfb_siblings.proofs.find.find_names.Given as goal

abbrev pub invariant-loop-name : goal.invariant-loop-name
invariant-loop-name g l = Walks l.cases (entries_of l.entries) (map (λ name. chars name.now) l.names) l.node (map (λ name. chars name.now) (drop l.name-index l.names))
