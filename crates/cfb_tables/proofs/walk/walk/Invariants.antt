use Rattle.std.proofs.Common.{◌-◌, ◌≤◌, length, vec_len}
use Rattle.cfb_tables.proofs.walk.walk.Given as goal
use Rattle.cfb_format.proofs.Walks.{Walked}

abbrev pub invariant-loop-sector : goal.invariant-loop-sector
invariant-loop-sector g l = record {
  short : vec_len l.list ≤ length l.table;
  walked : Walked l.table l.fn.start l.list.items l.sector;
}

abbrev pub decreases-loop-sector : goal.decreases-loop-sector
decreases-loop-sector g l = length l.table - vec_len l.list
