-- A chain whose sectors the caller has listed, as it grows and is cut over a medium (MS-CFB 2.3).
use Rattle.std.specs.Prelude.{◌≡◌, ◌-◌, ◌<◌, ℕ, List, ◌++◌, length, take, drop, true}
use Rattle.cfb_format.specs.declared.error.Error.{Error}
use Rattle.cfb_format.specs.Chain.{IsChain}
use Rattle.cfb_format.specs.Refused.{AfterMedium}
use Rattle.cfb_tables.specs.Listed.{EndsChain, ends_of, gained}
use Rattle.cfb_tables.specs.Tables.{TableState, HasTaken, TablesGiveBack, first_or_end}
use Rattle.cfb_alloc.specs.Alloc.{AllocatorState}

-- so many sectors were added behind the chain of the listed ones, or taken as a new chain, and appended to the list
pub record Lengthens (more : ℕ) (before after : List ℕ) (old new : TableState) : Type 0 where
  pub listed : after ≡ before ++ gained before after
  pub count : length (gained before after) ≡ more
  pub taken : HasTaken old new (ends_of before) (gained before after)

-- the last one of so many of these, and all behind it
abbrev pub from_last_of : ℕ → List ℕ → List ℕ
from_last_of left list = drop (left - 1) list

-- so many sectors can be left of the listed ones: a chain of the table ends at the last of these, and where there are more, those from the
-- last one that is left on are the chain. What is before that one is not looked at
pub record CanShorten (left : ℕ) (table list : List ℕ) : Type 0 where
  pub ends : EndsChain table list
  pub chain : left < length list → IsChain table (first_or_end (from_last_of left list)) (from_last_of left list)

-- so many sectors are left of the chain of the listed ones, those behind them were given back, and the list has the ones that are left
pub record Shortens (left : ℕ) (before after : List ℕ) (old new : TableState) : Type 0 where
  pub listed : after ≡ take left before
  pub given_back : TablesGiveBack (ends_of (take left before)) (drop left before) old new

-- such a change broke off: after any error but the medium's nothing has changed, and the list neither; after that one the change was
-- begun, and it is made in memory and in the list
abbrev pub ListBreaksOff : (List ℕ → List ℕ → TableState → TableState → Type 0) → List ℕ → List ℕ → AllocatorState → AllocatorState → Error → Type 0
ListBreaksOff made before after old new =
    AfterMedium ((new.file.begun ≡ true) × made before after old.tables new.tables) ((new ≡ old) × (after ≡ before))
