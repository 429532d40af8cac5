-- Numbers that follow each other.
use Rattle.std.specs.Prelude.{ℕ, ◌≡◌, ◌+◌, ◌<◌, List, slice_index}

-- so many of these numbers, from an index on, each follow the one before
abbrev pub FollowOn : List ℕ → ℕ → ℕ → Type 0
FollowOn numbers index n = (k : ℕ) → k < n → slice_index numbers (index + k) ≡ slice_index numbers index + k
