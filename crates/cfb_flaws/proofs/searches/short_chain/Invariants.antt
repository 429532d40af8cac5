use Rattle.std.proofs.Common.{◌≡◌, length}
use Rattle.cfb_flaws.specs.Claims.{IsPath}
use Rattle.cfb_flaws.proofs.searches.short_chain.Given as goal

abbrev pub invariant-loop-step : goal.invariant-loop-step
invariant-loop-step g l = record {
  is_path : IsPath l.table l.start l.list.items l.number;
  count : length l.list.items ≡ l._step;
}
