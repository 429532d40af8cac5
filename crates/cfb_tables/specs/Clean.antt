-- Tables in which no number is named twice, and how they stay so.
use Rattle.std.specs.Prelude.{ℕ, ◌≡◌, ◌≢◌, ◌<◌, ◌≤◌, List, [], ◌∷◌, ◌++◌, true, not, ◌==◌, length, IsTrue}
use Rattle.std.specs.List.{list_all}
use Rattle.cfb_format.specs.Bytes.{free_sector, invalid_sector, is_regular}
use Rattle.cfb_format.specs.Chain.{value, IsChain}
use Rattle.cfb_format.specs.Fat.{HasDistinctPointers}
use Rattle.cfb_tables.specs.Changes.{PointsWithin}
use Rattle.cfb_tables.specs.Changes.{GivesBack}
use Rattle.cfb_tables.specs.Tables.{TableState, HasTaken, Extended}

-- no number is named twice, a free one is never named, and the mark that is refused is not there
pub record IsClean (table : List ℕ) : Type 0 where
  pub pointers : HasDistinctPointers table
  pub busy : (i : ℕ) → i < length table → IsTrue (is_regular (value table i)) → value table (value table i) ≢ free_sector
  pub marks : list_all (λ word. not (word == invalid_sector)) table ≡ true

-- no pointer of the table names this number
abbrev pub IsUnnamed : List ℕ → ℕ → Type 0
IsUnnamed table i = (j : ℕ) → j < length table → IsTrue (is_regular (value table j)) → value table j ≢ i

-- ---- laws

-- past the end all is free, so pointers stay below it
abbrev pub CleanPointsWithin : Type 0
CleanPointsWithin = (table : List ℕ) → IsClean table → PointsWithin table

-- a chain is begun, or goes on from its last member so far
abbrev pub TakenIsClean : Type 0
TakenIsClean = (old new : TableState) (touched more : List ℕ) (start : ℕ) → HasTaken old new touched more → IsChain new.fat start (touched ++ more)
    → length touched ≤ 1 → IsClean old.fat → IsClean new.fat

abbrev pub ExtendedIsClean : Type 0
ExtendedIsClean = (old new : TableState) (start : ℕ) (more : List ℕ) → Extended old new start more → IsClean old.fat → IsClean new.fat

-- a chain whose start nothing names is freed
abbrev pub FreedIsClean : Type 0
FreedIsClean = (old new list : List ℕ) (start : ℕ) → GivesBack [] list old new → IsChain old start list
    → ((i : ℕ) → i < length old → IsTrue (is_regular (value old i)) → value old i ≢ start) → IsClean old → IsClean new

-- a chain is cut behind a member
abbrev pub CutIsClean : Type 0
CutIsClean = (old new list : List ℕ) (member : ℕ) → GivesBack (member ∷ []) list old new → IsChain old (value old member) list → IsClean old → IsClean new
