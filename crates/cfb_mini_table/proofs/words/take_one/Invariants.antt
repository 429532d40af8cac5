use Rattle.std.proofs.Common.{◌≡◌, ℕ, vec_len, vec_capacity}
use Rattle.std.specs.Prelude.{Contains}
use Rattle.cfb_mini_table.specs.MiniTable.{ListsMiniFree, TakesEndFirst}
use Rattle.cfb_mini_table.proofs.words.take_one.Given as goal

abbrev pub invariant-loop-number : goal.invariant-loop-number
invariant-loop-number g l = record {
  listed : ListsMiniFree l.free.items l.minifat.items;
  next : TakesEndFirst l.free.items l.minifat.items;
  fewer : (i : ℕ) → Contains l.free.items i → Contains l.initial.free.items i;
  same : l.minifat.items ≡ l.initial.minifat.items;
  held : vec_capacity l.minifat ≡ vec_capacity l.initial.minifat;
  room : vec_capacity l.free ≡ vec_capacity l.initial.free;
}

abbrev pub decreases-loop-number : goal.decreases-loop-number
decreases-loop-number g l = vec_len l.free
