use Rattle.std.proofs.Common.{◌≡◌, ◌≢◌, List, length}
use Rattle.cfb_format.specs.Bytes.{end_of_chain}
use Rattle.cfb_tables.proofs.walk.last_of.Given as goal
use Rattle.cfb_format.proofs.Walks.{Walked}

-- the members before the last one met
abbrev pub invariant-loop-turn : goal.invariant-loop-turn
invariant-loop-turn l = record {
  goes_on : l.last ≢ end_of_chain;
  walked : (done : List _) × (length done ≡ l.turn) × Walked l.table l.fn.start done l.last;
}
