use Rattle.std.proofs.Common.{◌≡◌, ◌<◌, ◌*◌, ◌-◌, ◌^◌, ℕ, min}
use Rattle.std.specs.Prelude.{slice_index}
use Rattle.cfb_mini.specs.MiniSectors.{HasMiniByte}
use Rattle.cfb_content.proofs.in_minis.there_in_minis.Given as goal

abbrev pub invariant-loop-number : goal.invariant-loop-number
invariant-loop-number g l = record {
  there : l.there ≡ min (l.number-index * 64) (2 ^ 64 - 1);
  full : (i : ℕ) → i < l.number-index → (k : ℕ) → k < 64 → HasMiniByte l.mini (slice_index l.ids i) k;
}
