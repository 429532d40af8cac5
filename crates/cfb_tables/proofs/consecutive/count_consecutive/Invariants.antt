use Rattle.std.proofs.Common.{◌<◌, ◌≤◌, ◌-◌}
use Rattle.cfb_tables.specs.Consecutive.{FollowOn}
use Rattle.cfb_tables.proofs.consecutive.count_consecutive.Given as goal

abbrev pub invariant-loop-count : goal.invariant-loop-count
invariant-loop-count l = record {
  some : 0 < l.count;
  within : l.count ≤ l.bound;
  follow : FollowOn l.numbers l.index l.count;
}

abbrev pub decreases-loop-count : goal.decreases-loop-count
decreases-loop-count l = l.bound - l.count
