use Rattle.std.proofs.Common.{◌≡◌, ◌+◌, ◌-◌, ℕ, List, ◌++◌, vec_len, vec_capacity}
use Rattle.cfb_tables.specs.Tables.{IsPrepared}
use Rattle.cfb_tables.proofs.AttachLemmas.{Attached}
use Rattle.cfb_tables.proofs.lists.Lists.attach_prepared.Given as goal

abbrev pub invariant-loop-turn : goal.invariant-loop-turn
invariant-loop-turn g l = record {
  prepared : IsPrepared l.self (l.count - l.turn);
  attached : (more : List ℕ) × (l.list.items ≡ l.initial.list.items ++ more) × Attached l.initial.self.state l.self.state l.fn.last l.end more;
  len : vec_len l.list ≡ vec_len l.initial.list + l.turn;
  room : vec_capacity l.list ≡ vec_capacity l.initial.list;
  none : l.turn ≡ 0 → (l.self.state ≡ l.initial.self.state) × (l.list.items ≡ l.initial.list.items);
}
