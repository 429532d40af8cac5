use Rattle.std.proofs.Common.{◌≡◌, ◌+◌, ◌++◌, take, vec_len, vec_capacity}
use Rattle.cfb_directory.proofs.inserting.append_reserved.Given as goal

abbrev pub invariant-loop-number : goal.invariant-loop-number
invariant-loop-number g l = record {
  listed : l.list.items ≡ l.initial.list.items ++ take l.number-index l.more;
  len : vec_len l.list ≡ vec_len l.initial.list + l.number-index;
  room : vec_capacity l.list ≡ vec_capacity l.initial.list;
}
