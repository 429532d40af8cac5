use Rattle.std.proofs.Common.{◌-◌, ◌<◌, ℕ, length, vec_len}
use Rattle.std.specs.Prelude.{Contains}
use Rattle.cfb_soundness.specs.Marks.{AreFresh, Marked}
use Rattle.cfb_flaws.specs.Claims.{IsPath}
use Rattle.cfb_flaws.proofs.claims.walk_unseen.Given as goal

abbrev pub invariant-loop-sector : goal.invariant-loop-sector
invariant-loop-sector g l = record {
  fresh : AreFresh l.fn.seen l.path.items;
  marked : Marked l.fn.seen l.path.items l.seen;
  below : (i : ℕ) → Contains l.path.items i → i < length l.table;
  is_path : IsPath l.table l.fn.start l.path.items l.sector;
}

abbrev pub decreases-loop-sector : goal.decreases-loop-sector
decreases-loop-sector g l = length l.table - vec_len l.path
