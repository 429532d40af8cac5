use Rattle.std.proofs.Common.{ℕ, List}
use Rattle.cfb_flaws.proofs.Filling.{FilledFrom}
use Rattle.cfb_flaws.proofs.reach.fill.Given as goal

abbrev pub invariant-loop-k : goal.invariant-loop-k
invariant-loop-k g l = FilledFrom l.known l.fn.table l.fn.reach l.path l.behind l.k l.sum l.reach

abbrev pub decreases-loop-k : goal.decreases-loop-k
decreases-loop-k g l = l.k
