-- Paths in which a `..` stands.
use Rattle.std.specs.Prelude.{ℕ, List, Bool, ◌==◌}
use Rattle.std.specs.List.{slice_split, list_any}
use Rattle.cfb_format.specs.Path.{slash, part_says_parent}

-- a part of the path is `..`
abbrev pub has_parents : List ℕ → Bool
has_parents path = list_any part_says_parent (slice_split (λ c. c == slash) path)
