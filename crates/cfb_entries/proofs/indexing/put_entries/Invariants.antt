use Rattle.std.proofs.Common.{◌+◌, ◌≤◌, take}
use Rattle.cfb_codecs.specs.EntryModel.{entries_of}
use Rattle.cfb_entries.specs.Covering.{ArePut}
use Rattle.cfb_entries.proofs.indexing.put_entries.Given as goal

abbrev pub invariant-loop-child : goal.invariant-loop-child
invariant-loop-child g l = record {
  put : ArePut l.letters (entries_of l.list) (take l.child-index l.children) l.fn.index l.index;
  room : l.fn.index.room ≤ l.index.room + l.child-index;
}
