use Rattle.std.proofs.Common.{List, get_or, refl, subst, arith}
use Rattle.std.proofs.lemmas.List.{take_all}
use Rattle.std.proofs.lemmas.List.Elements.{Contains-get_or}
use Rattle.cfb_codecs.specs.EntryModel.{entries_of}
use Rattle.cfb_entries.specs.declared.indexing.Child.{Child}
use Rattle.cfb_entries.specs.Covering.{ArePut}
use Rattle.cfb_entries.proofs.Indexed.{put-more}
use Rattle.cfb_entries.proofs.indexing.put_entries.Goals as goal

pub loop-child-init : goal.loop-child-init
loop-child-init g c = record { put = λ q. refl; room = omega arith }

pub put_entry-requires-clause-inside : goal.put_entry-requires-clause-inside
put_entry-requires-clause-inside g c =
    let d : Child = record { storage = 0; number = 0 } in
    c.requires.inside (get_or c.args.children.now c.loop-child.child-index d) (Contains-get_or c.args.children.now c.loop-child.child-index d c.loop-child-test.true)

pub put_entry-requires-clause-room : goal.put_entry-requires-clause-room
put_entry-requires-clause-room g c = omega (arith, c.loop-child.invariant.room, c.requires.room, c.loop-child-test.true)

pub loop-child-preserved : goal.loop-child-preserved
loop-child-preserved g c = record {
  put = put-more c.args.letters.now (entries_of c.args.list.now) c.args.index.now c.loop-child.index c.put_entry.new.index c.args.children.now c.loop-child.child-index (record { storage = 0; number = 0 }) c.loop-child-test.true c.put_entry.ensures.put c.loop-child.invariant.put;
  room = omega (arith, c.loop-child.invariant.room, c.put_entry.ensures.room);
}

pub returns-clause-put : goal.returns-clause-put
returns-clause-put g c =
    subst (λ (l : List Child). ArePut c.args.letters.now (entries_of c.args.list.now) l c.args.index.now c.loop-child.index)
    (take_all c.loop-child.child-index c.args.children.now (let past = c.loop-child-test.false in omega (arith, past))) c.loop-child.invariant.put
