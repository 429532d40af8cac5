-- How a table of successors changes.
use Rattle.std.specs.Prelude.{ℕ, ◌≡◌, ◌≢◌, ◌-◌, ◌<◌, ◌≤◌, ◌⊎◌, List, [], ◌∷◌, ◌++◌, length, nat_eq, slice_index, Contains, IsTrue}
use Rattle.std.specs.List.{IsDistinct}
use Rattle.cfb_format.specs.Bytes.{end_of_chain, free_sector, max_regular_sector, is_regular}
use Rattle.cfb_format.specs.Chain.{value, IsChain}

-- no number stands in both lists
abbrev pub AreDisjoint : List ℕ → List ℕ → Type 0
AreDisjoint xs ys = (i : ℕ) → Contains xs i → Contains ys i → ⊥

-- the table changes at these numbers alone
abbrev pub ChangesOnlyValues : List ℕ → List ℕ → List ℕ → Type 0
ChangesOnlyValues touched old new = (i : ℕ) → (Contains touched i → ⊥) → value new i ≡ value old i

-- no number of the table is free
abbrev pub NoneFree : List ℕ → Type 0
NoneFree table = (i : ℕ) → i < length table → value table i ≢ free_sector

-- no list is the chain from the start
abbrev pub NoChain : List ℕ → ℕ → Type 0
NoChain table start = (list : List ℕ) → IsChain table start list → ⊥

-- what comes after a sector of the table: END, or another sector of it
abbrev pub IsNextOf : List ℕ → ℕ → ℕ → Type 0
IsNextOf table i next = (i < length table) × (next ≡ value table i) × ((next ≡ end_of_chain) ⊎ ((next < length table) × (next ≤ max_regular_sector)))

-- the list has each number below the end that is free, once
pub record ListsFree (below : ℕ) (free table : List ℕ) : Type 0 where
  pub once : IsDistinct nat_eq free
  pub sound : (i : ℕ) → Contains free i → (i < below) × (value table i ≡ free_sector)
  pub whole : (i : ℕ) → i < below → value table i ≡ free_sector → Contains free i

-- of the first n numbers of a table: the last of them is in use, or is the one to be taken next
abbrev pub TakesLastFirst : ℕ → List ℕ → List ℕ → Type 0
TakesLastFirst n free table = (0 < n → value table (n - 1) ≢ free_sector) ⊎ ((front : List ℕ) × (free ≡ front ++ (n - 1) ∷ []))

-- these numbers are given back: they are free now, a chain ends at each of `ends`, which has none or one, and nothing else changed
pub record GivesBack (ends gone old new : List ℕ) : Type 0 where
  pub same_length : length new ≡ length old
  pub ended : (i : ℕ) → Contains ends i → value new i ≡ end_of_chain
  pub free : (i : ℕ) → Contains gone i → value new i ≡ free_sector
  pub only : ChangesOnlyValues (ends ++ gone) old new

-- each pointer of the table is a number of it
abbrev pub PointsWithin : List ℕ → Type 0
PointsWithin table = (i : ℕ) → i < length table → IsTrue (is_regular (slice_index table i)) → slice_index table i < length table

-- ---- laws

-- a chain stays where its members' values stay
abbrev pub ChainsStay : Type 0
ChainsStay = (old new : List ℕ) (start : ℕ) (list : List ℕ) → ((i : ℕ) → Contains list i → value new i ≡ value old i)
    → IsChain old start list → IsChain new start list

-- and so where the table changes elsewhere alone
abbrev pub OtherChainsStay : Type 0
OtherChainsStay = (touched old new : List ℕ) (start : ℕ) (list : List ℕ) → ChangesOnlyValues touched old new → AreDisjoint list touched
    → IsChain old start list → IsChain new start list

-- a chain goes another way from the member x on: it grows, or is cut where zs is empty
abbrev pub ChainsTurn : Type 0
ChainsTurn = (old new : List ℕ) (start : ℕ) (xs : List ℕ) (x : ℕ) (ys zs : List ℕ) → ((i : ℕ) → Contains xs i → value new i ≡ value old i)
    → x < length new → IsChain old start (xs ++ x ∷ ys) → IsChain new (value new x) zs → IsChain new start (xs ++ x ∷ zs)

-- no member of a chain is free, each is below the table's end, and none stands twice
abbrev pub MembersAreBusy : Type 0
MembersAreBusy = (table : List ℕ) (start : ℕ) (list : List ℕ) → IsChain table start list → (i : ℕ) → Contains list i
    → (value table i ≢ free_sector) × (i < length table) × IsTrue (is_regular i)
