use Rattle.std.proofs.Common.{◌≡◌, ℕ, ◌+◌, List, ◌++◌, length, vec_len, vec_capacity}
use Rattle.std.specs.Prelude.{Contains}
use Rattle.cfb_mini_table.specs.MiniTable.{ListsMiniFree, TakesEndFirst}
use Rattle.cfb_mini_table.specs.Steps.{Taking}
use Rattle.cfb_mini_table.proofs.words.take_all.Given as goal

abbrev pub invariant-loop-turn : goal.invariant-loop-turn
invariant-loop-turn g l = record {
  taken : (more : List ℕ) × (l.list.items ≡ l.initial.list.items ++ more) × (length more ≡ l.turn) × Taking l.fn.limit l.initial.minifat.items l.minifat.items more;
  listed : ListsMiniFree l.free.items l.minifat.items;
  next : TakesEndFirst l.free.items l.minifat.items;
  fewer : (i : ℕ) → Contains l.free.items i → Contains l.initial.free.items i;
  len : vec_len l.list ≡ vec_len l.initial.list + l.turn;
  held : vec_capacity l.minifat ≡ vec_capacity l.initial.minifat;
  free_held : vec_capacity l.free ≡ vec_capacity l.initial.free;
  room : vec_capacity l.list ≡ vec_capacity l.initial.list;
}
