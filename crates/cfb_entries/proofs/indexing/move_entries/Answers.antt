use Rattle.std.proofs.Common.{List, ℕ, get_or, refl, subst, arith}
use Rattle.std.proofs.lemmas.List.{take_all}
use Rattle.std.proofs.lemmas.List.Elements.{Contains-get_or}
use Rattle.cfb_codecs.specs.EntryModel.{entries_of}
use Rattle.cfb_entries.specs.Covering.{AreMoved}
use Rattle.cfb_entries.proofs.Indexed.{move-more}
use Rattle.cfb_entries.proofs.indexing.move_entries.Goals as goal

pub loop-number-init : goal.loop-number-init
loop-number-init g c = record { moved = λ q. refl; room = omega arith }

pub take_entry-requires-clause-inside : goal.take_entry-requires-clause-inside
take_entry-requires-clause-inside g c = c.requires.inside (get_or c.args.numbers.now c.loop-number.number-index 0) (Contains-get_or c.args.numbers.now c.loop-number.number-index 0 c.loop-number-test.true)

pub put_entry-requires-clause-inside : goal.put_entry-requires-clause-inside
put_entry-requires-clause-inside g c = c.requires.inside (get_or c.args.numbers.now c.loop-number.number-index 0) (Contains-get_or c.args.numbers.now c.loop-number.number-index 0 c.loop-number-test.true)

pub put_entry-requires-clause-room : goal.put_entry-requires-clause-room
put_entry-requires-clause-room g c = omega (arith, c.loop-number.invariant.room, c.requires.room, c.loop-number-test.true, c.take_entry.ensures.room)

pub loop-number-preserved : goal.loop-number-preserved
loop-number-preserved g c = record {
  moved = move-more c.args.letters.now (entries_of c.args.list.now) c.args.index.now c.loop-number.index c.put_entry.new.index c.args.from c.args.to c.args.numbers.now c.loop-number.number-index c.take_entry.new.index c.loop-number-test.true c.take_entry.ensures.taken c.put_entry.ensures.put c.loop-number.invariant.moved;
  room = omega (arith, c.loop-number.invariant.room, c.take_entry.ensures.room, c.put_entry.ensures.room);
}

pub returns-clause-moved : goal.returns-clause-moved
returns-clause-moved g c =
    subst (λ (l : List ℕ). AreMoved c.args.letters.now (entries_of c.args.list.now) l c.args.from c.args.to c.args.index.now c.loop-number.index)
    (take_all c.loop-number.number-index c.args.numbers.now (let past = c.loop-number-test.false in omega (arith, past))) c.loop-number.invariant.moved
