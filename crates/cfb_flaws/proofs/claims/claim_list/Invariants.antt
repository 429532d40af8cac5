use Rattle.std.proofs.Common.{◌≡◌, ℕ, List, false, length, take}
use Rattle.std.specs.Prelude.{Contains}
use Rattle.cfb_format.specs.Chain.{Follows}
use Rattle.cfb_flaws.specs.Owners.{is_unused, is_chained}
use Rattle.cfb_flaws.specs.Claims.{Claimed, IsKnown}
use Rattle.cfb_flaws.proofs.claims.claim_list.Given as goal

abbrev pub invariant-loop-number : goal.invariant-loop-number
invariant-loop-number l = record {
  claimed : Claimed l.fn.owners (take l.number-index l.list) l.owner l.owners;
  known : (table : List ℕ) → IsKnown table l.fn.owners l.fn.seen → ((i : ℕ) → Contains l.list i → (xs : List ℕ) → Follows table i xs → ⊥)
      → is_unused l.owner ≡ false → is_chained l.owner ≡ false → IsKnown table l.owners l.seen;
  size : length l.owners ≡ length l.seen;
}
