use Rattle.std.proofs.Common.{◌<◌, ◌≤◌, ℕ, length}
use Rattle.cfb_format.specs.Bytes.{max_regular_sector}
use Rattle.cfb_flaws.specs.Flaws.{Comes}
use Rattle.cfb_flaws.proofs.searches.break_of.Given as goal

abbrev pub invariant-loop-step : goal.invariant-loop-step
invariant-loop-step l = record {
  comes : Comes l.table l.start l.number;
  below : l.number < length l.table;
  regular : l.number ≤ max_regular_sector;
}
