use Rattle.std.proofs.Common.{◌≡◌, ◌≤◌, ◌+◌, ◌-◌, ◌^◌, drop}
use Rattle.cfb_codecs.specs.EntryModel.{entries_of}
use Rattle.cfb_shown.specs.Trees.{at_most_said, bytes_along}
use Rattle.cfb_shown.proofs.tree.count_bytes.Given as goal

abbrev pub invariant-loop-walked : goal.invariant-loop-walked
invariant-loop-walked g l = record {
  counts : at_most_said (l.bytes + bytes_along (entries_of l.entries) (drop l.walked-index l.list)) ≡ at_most_said (bytes_along (entries_of l.entries) l.list);
  most : l.bytes ≤ 2 ^ 64 - 1;
}
