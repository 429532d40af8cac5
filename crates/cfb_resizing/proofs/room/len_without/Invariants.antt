use Rattle.std.proofs.Common.{◌≡◌, ℕ, ◌<◌, ◌≤◌, length}
use Rattle.cfb_format.specs.Bytes.{free_sector}
use Rattle.cfb_format.specs.Chain.{value}
use Rattle.cfb_format.specs.Full.{freed}
use Rattle.cfb_resizing.proofs.room.len_without.Given as goal

abbrev pub invariant-loop-len : goal.invariant-loop-len
invariant-loop-len l = record {
  within : l.len ≤ length l.table;
  rest : (k : ℕ) → l.len ≤ k → k < length l.table → value (freed l.table l.rising) k ≡ free_sector;
}

abbrev pub decreases-loop-len : goal.decreases-loop-len
decreases-loop-len l = l.len
