use Rattle.std.proofs.Common.{◌≡◌, ◌⊎◌, ◌<◌, ◌≤◌, ◌+◌, ℕ, get_or}
use Rattle.cfb_slots.proofs.bounds.least_above.Given as goal

-- above all that were met, and either the least above the others or just above one that was met
abbrev pub invariant-loop-sector : goal.invariant-loop-sector
invariant-loop-sector l = record {
  above : l.initial.above ≤ l.least;
  met : (k : ℕ) → k < l.sector-index → get_or l.more k 0 < l.least;
  least : (l.least ≡ l.initial.above) ⊎ ((k : ℕ) × (k < l.sector-index) × (l.least ≡ get_or l.more k 0 + 1));
}
