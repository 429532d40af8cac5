use Rattle.std.proofs.Common.{ℕ, List}
use Rattle.cfb_format.specs.Chain.{Follows}
use Rattle.cfb_flaws.proofs.Searching.{OwnSoFar}
use Rattle.cfb_flaws.proofs.searches.own_end.Given as goal

abbrev pub invariant-loop-step : goal.invariant-loop-step
invariant-loop-step l = (list : List ℕ) → Follows l.table l.start list → OwnSoFar l.table l.owners l.owner list l.number l._step
