-- The numbers of new slots.
use Rattle.std.specs.Prelude.{ℕ, zero, suc, ◌+◌, List, [], ◌∷◌, ◌++◌}

-- the list, and behind it so many numbers from this one on, the greatest first
abbrev pub with_numbers : List ℕ → ℕ → ℕ → List ℕ
with_numbers list from zero = list
with_numbers list from (suc more) = with_numbers (list ++ (from + more) ∷ []) from more
