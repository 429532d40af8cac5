use Rattle.std.proofs.Common.{◌≤◌, chars, length, vec_capacity}
use Rattle.std.specs.Prelude.{◌||◌, IsTrue}
use Rattle.cfb_tool.proofs.Runs.{IsAdding}
use Rattle.cfb_tool.proofs.playing.go_on.Given as goal

abbrev pub invariant-loop-rest : goal.invariant-loop-rest
invariant-loop-rest g l = record {
  room : 1 ≤ vec_capacity l.replies;
  adding : IsTrue g.F.ReadMedium.tells
      → IsAdding (λ f. g.F.ReadMedium.read_faults f || g.F.Medium.write_faults f) l.fn.file (chars l.path) l.bytes l.rest l.file;
}

abbrev pub decreases-loop-rest : goal.decreases-loop-rest
decreases-loop-rest g l = length l.rest
