use Rattle.std.proofs.Common.{◌≤◌, length, vec_len, vec_capacity}
use Rattle.cfb_tables.specs.Changes.{ListsFree, TakesLastFirst}
use Rattle.cfb_tables.proofs.free.free_below.Given as goal

abbrev pub invariant-loop-number : goal.invariant-loop-number
invariant-loop-number g l = record {
  listed : ListsFree l.number l.free.items l.table;
  next : TakesLastFirst l.number l.free.items l.table;
  few : vec_len l.free ≤ l.number;
  room : length l.table ≤ vec_capacity l.free;
}
