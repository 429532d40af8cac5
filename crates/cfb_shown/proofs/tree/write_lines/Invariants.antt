use Rattle.std.proofs.Common.{◌≡◌, ◌≤◌, ◌++◌, [], List, ℕ, drop, length, vec_capacity}
use Rattle.std.specs.Io.KnownBytes.{Appends}
use Rattle.cfb_codecs.specs.EntryModel.{entries_of}
use Rattle.cfb_shown.specs.Trees.{lines_along}
use Rattle.cfb_shown.proofs.tree.write_lines.Given as goal

abbrev pub invariant-loop-walked : goal.invariant-loop-walked
invariant-loop-walked g l = record {
  few : length l.above.items ≤ l.walked-index;
  room : length l.list ≤ vec_capacity l.above;
  text : List ℕ;
  written : Appends (g.W.Write.contents l.fn.out) (g.W.Write.contents l.out) text;
  lines : text ++ lines_along (entries_of l.entries) l.above.items (drop l.walked-index l.list) ≡ lines_along (entries_of l.entries) [] l.list;
}
