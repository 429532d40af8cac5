use Rattle.std.proofs.Common.{◌≡◌, ◌+◌, ◌≤◌, vec_len, vec_capacity}
use Rattle.cfb_entries.specs.Slots.{with_numbers}
use Rattle.cfb_entries.proofs.free.list_numbers.Given as goal

abbrev pub invariant-loop-left : goal.invariant-loop-left
invariant-loop-left g l = record {
  listed : with_numbers l.free.items l.from l.left ≡ with_numbers l.fn.free.items l.from l.count;
  room : vec_len l.free + l.left ≤ vec_capacity l.free;
  few : l.left ≤ l.count;
}

abbrev pub decreases-loop-left : goal.decreases-loop-left
decreases-loop-left g l = l.left
