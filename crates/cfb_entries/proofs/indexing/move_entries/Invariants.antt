use Rattle.std.proofs.Common.{◌+◌, ◌≤◌, take}
use Rattle.cfb_codecs.specs.EntryModel.{entries_of}
use Rattle.cfb_entries.specs.Covering.{AreMoved}
use Rattle.cfb_entries.proofs.indexing.move_entries.Given as goal

abbrev pub invariant-loop-number : goal.invariant-loop-number
invariant-loop-number g l = record {
  moved : AreMoved l.letters (entries_of l.list) (take l.number-index l.numbers) l.from l.to l.fn.index l.index;
  room : l.fn.index.room ≤ l.index.room + l.number-index;
}
