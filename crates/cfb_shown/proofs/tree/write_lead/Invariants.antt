use Rattle.std.proofs.Common.{◌≡◌, ◌++◌, List, ℕ, drop, flat_map}
use Rattle.std.specs.Io.KnownBytes.{Appends}
use Rattle.cfb_shown.specs.Trees.{beside}
use Rattle.cfb_shown.proofs.tree.write_lead.Given as goal

abbrev pub invariant-loop-is_ended : goal.invariant-loop-is_ended
invariant-loop-is_ended g l = record {
  text : List ℕ;
  written : Appends (g.W.Write.contents l.fn.out) (g.W.Write.contents l.out) text;
  cells : text ++ flat_map beside (drop l.is_ended-index l.above) ≡ flat_map beside l.above;
}
