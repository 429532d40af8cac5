use Rattle.std.proofs.Common.{List, get_or, refl, subst, arith}
use Rattle.std.proofs.lemmas.List.{take_all}
use Rattle.std.proofs.lemmas.List.Elements.{Contains-get_or}
use Rattle.cfb_codecs.specs.EntryModel.{entries_of}
use Rattle.cfb_entries.specs.declared.indexing.Child.{Child}
use Rattle.cfb_entries.specs.Covering.{AreTaken}
use Rattle.cfb_entries.proofs.Indexed.{take-more}
use Rattle.cfb_entries.proofs.indexing.take_entries.Goals as goal

pub loop-child-init : goal.loop-child-init
loop-child-init g c = record { taken = λ q. refl; room = omega arith }

pub take_entry-requires-clause-inside : goal.take_entry-requires-clause-inside
take_entry-requires-clause-inside g c =
    let d : Child = record { storage = 0; number = 0 } in
    c.requires.inside (get_or c.args.children.now c.loop-child.child-index d) (Contains-get_or c.args.children.now c.loop-child.child-index d c.loop-child-test.true)

pub loop-child-preserved : goal.loop-child-preserved
loop-child-preserved g c = record {
  taken = take-more c.args.letters.now (entries_of c.args.list.now) c.args.index.now c.loop-child.index c.take_entry.new.index c.args.children.now c.loop-child.child-index (record { storage = 0; number = 0 }) c.loop-child-test.true c.take_entry.ensures.taken c.loop-child.invariant.taken;
  room = omega (arith, c.loop-child.invariant.room, c.take_entry.ensures.room);
}

pub returns-clause-taken : goal.returns-clause-taken
returns-clause-taken g c =
    subst (λ (l : List Child). AreTaken c.args.letters.now (entries_of c.args.list.now) l c.args.index.now c.loop-child.index)
    (take_all c.loop-child.child-index c.args.children.now (let past = c.loop-child-test.false in omega (arith, past))) c.loop-child.invariant.taken
