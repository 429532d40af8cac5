-- Where a mini sector lies in the sectors of the mini stream.
use Rattle.std.proofs.Common.{arith, ℕ, ◌*◌, ◌/◌, ◌<◌, ◌%◌, ◌+◌, ◌≤◌, ◌≡◌}
use Rattle.cfb_format.specs.declared.version.Version.TheVariants.{V3, V4}
use Rattle.cfb_format.specs.declared.version.Version.{Version}
use Rattle.cfb_format.specs.Bytes.{sector_len}

-- which of the sectors has the mini sector
pub mini_below : (v : Version) (m n : ℕ) → 64 * m < n * sector_len v → 64 * m / sector_len v < n
mini_below V3 m n h = omega (arith, h)
mini_below V4 m n h = omega (arith, h)

-- that one has all of it
pub mini_inside : (v : Version) (m : ℕ) → 64 * m % sector_len v + 64 ≤ sector_len v
mini_inside V3 m = omega arith
mini_inside V4 m = omega arith

pub mini_quotient : (v : Version) (m o : ℕ) → o < 64 → (64 * m + o) / sector_len v ≡ 64 * m / sector_len v
mini_quotient V3 m o h = omega arith
mini_quotient V4 m o h = omega arith

pub mini_rest : (v : Version) (m o : ℕ) → o < 64 → (64 * m + o) % sector_len v ≡ 64 * m % sector_len v + o
mini_rest V3 m o h = omega arith
mini_rest V4 m o h = omega arith
