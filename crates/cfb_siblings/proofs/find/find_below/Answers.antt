use Rattle.std.proofs.Common.{◌≡◌, true, false}
use Rattle.std.specs.Prelude.{chars}
use Rattle.cfb_codecs.specs.EntryModel.{entries_of}
use Rattle.cfb_siblings.proofs.PathWalk.{leads-on}
use Rattle.cfb_siblings.proofs.find.find_below.Goals as goal

pub find_child-requires-clause-stands : goal.find_child-requires-clause-stands
find_child-requires-clause-stands g c = c.requires.stands (λ e. let q : false ≡ true = c.if-is_stream.ensures.1 e in cc)

pub returns : goal.returns
returns g c = leads-on c.args.cases.now (entries_of c.args.entries.now) c.args.node (chars c.args.name.now) c.find_child.result (λ e. let q : false ≡ true = c.if-is_stream.ensures.1 e in cc) c.find_child.ensures.named
