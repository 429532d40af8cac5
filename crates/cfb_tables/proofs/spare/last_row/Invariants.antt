use Rattle.std.proofs.Common.{◌≡◌, ◌-◌, ◌<◌, ◌≤◌, ℕ, length}
use Rattle.std.specs.Prelude.{slice_index}
use Rattle.cfb_format.specs.Bytes.{free_sector}
use Rattle.cfb_tables.proofs.spare.last_row.Given as goal

abbrev pub invariant-loop-behind : goal.invariant-loop-behind
invariant-loop-behind l = (i : ℕ) → length l.table - l.behind ≤ i → i < length l.table → slice_index l.table i ≡ free_sector
