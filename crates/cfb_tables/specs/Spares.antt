-- The free numbers of a table, the one to be given out next at the end, and how many their list can hold.
use Rattle.std.specs.Prelude.{ℕ, List}

pub record SpareNumbers : Type 0 where
  pub items : List ℕ
  pub capacity : ℕ
