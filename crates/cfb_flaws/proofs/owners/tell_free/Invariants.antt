use Rattle.std.proofs.Common.{◌≡◌, ◌<◌, ◌≤◌, ℕ, length}
use Rattle.std.specs.Prelude.{slice_index}
use Rattle.cfb_flaws.specs.Owners.{owner_at}
use Rattle.cfb_flaws.specs.Claims.{freed}
use Rattle.cfb_flaws.proofs.owners.tell_free.Given as goal

abbrev pub invariant-loop-i : goal.invariant-loop-i
invariant-loop-i l = record {
  size : length l.owners ≡ length l.fn.owners;
  done : (k : ℕ) → k < l.i → owner_at l.owners k ≡ freed (owner_at l.fn.owners k) (slice_index l.table k);
  left : (k : ℕ) → l.i ≤ k → owner_at l.owners k ≡ owner_at l.fn.owners k;
}
