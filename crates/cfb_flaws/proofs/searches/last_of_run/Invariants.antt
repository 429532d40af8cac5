use Rattle.std.proofs.Common.{◌≤◌, ℕ, List}
use Rattle.cfb_flaws.specs.Searches.{RunEnd}
use Rattle.cfb_flaws.proofs.searches.last_of_run.Given as goal

abbrev pub invariant-loop-step : goal.invariant-loop-step
invariant-loop-step l = record {
  low : l.first ≤ l.last;
  run : (list : List ℕ) → RunEnd l.table l.owners list l.first l.last;
}
