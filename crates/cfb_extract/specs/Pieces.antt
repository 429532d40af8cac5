-- A stream that is read in pieces.
use Rattle.std.specs.Prelude.{ℕ, ◌+◌, ◌≡◌, ◌≤◌, List, drop, length, take}

-- a read answered n: that many bytes of what lies at the place
pub record ReadsPiece (content : List ℕ) (at : ℕ) (into : List ℕ) (n : ℕ) : Type 0 where
  pub inside : at + n ≤ length content
  pub gives : take n into ≡ take n (drop at content)
