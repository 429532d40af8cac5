use Rattle.std.proofs.Common.{◌≤◌}
use Rattle.cfb_reports.specs.Runs.{Joined}
use Rattle.cfb_reports.proofs.runs.runs_of.Given as goal

abbrev pub invariant-loop-i : goal.invariant-loop-i
invariant-loop-i g l = record {
  joined : Joined l.uses l.runs.items l.first l.i;
  low : l.first ≤ l.i;
}
