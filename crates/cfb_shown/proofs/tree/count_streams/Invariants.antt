use Rattle.std.proofs.Common.{◌≡◌, ◌+◌, ◌≤◌, drop}
use Rattle.cfb_codecs.specs.EntryModel.{entries_of}
use Rattle.cfb_shown.specs.Trees.{streams_along}
use Rattle.cfb_shown.proofs.tree.count_streams.Given as goal

abbrev pub invariant-loop-walked : goal.invariant-loop-walked
invariant-loop-walked g l = record {
  counts : l.streams + streams_along (entries_of l.entries) (drop l.walked-index l.list) ≡ streams_along (entries_of l.entries) l.list;
  few : l.streams ≤ l.walked-index;
}
