-- What searches along chains find.
use Rattle.std.specs.Prelude.{ℕ, ◌+◌, ◌≡◌, ◌≢◌, ◌<◌, ◌≤◌, ◌⊎◌, List, ◌++◌, length, slice_index, Contains}
use Rattle.cfb_format.specs.Bytes.{end_of_chain, max_regular_sector}
use Rattle.cfb_format.specs.Chain.{Follows}
use Rattle.cfb_flaws.specs.declared.owner.Owner.{Owner}
use Rattle.cfb_flaws.specs.Owners.{owner_at}

-- the owner has these numbers
abbrev pub HaveOwner : List Owner → Owner → List ℕ → Type 0
HaveOwner owners o list = (i : ℕ) → Contains list i → owner_at owners i ≡ o

-- the chain splits there: what is before has the owner, and what comes next has not
pub record OwnEnd (table : List ℕ) (owners : List Owner) (o : Owner) (list : List ℕ) (next : ℕ) : Type 0 where
  pub path : List ℕ
  pub rest : List ℕ
  pub split : list ≡ path ++ rest
  pub follows : Follows table next rest
  pub owned : HaveOwner owners o path
  pub stops : (next ≡ end_of_chain) ⊎ (owner_at owners next ≢ o)

-- a chain goes from there, and its members are among these numbers
pub record IsWithin (table list : List ℕ) (next : ℕ) : Type 0 where
  pub rest : List ℕ
  pub follows : Follows table next rest
  pub inside : (i : ℕ) → Contains rest i → Contains list i

-- the number leads to the next one, which has the same owner
pub record GoesOn (table : List ℕ) (owners : List Owner) (i : ℕ) : Type 0 where
  pub below : i < length table
  pub regular : i + 1 ≤ max_regular_sector
  pub next : slice_index table i ≡ i + 1
  pub same : owner_at owners (i + 1) ≡ owner_at owners i

-- the numbers of the run are among these, and have the owner of the first
pub record IsRun (table : List ℕ) (owners : List Owner) (list : List ℕ) (first last : ℕ) : Type 0 where
  pub within : IsWithin table list last
  pub goes_on : last ≢ end_of_chain
  pub each : (i : ℕ) → first ≤ i → i ≤ last → (i < length table) × Contains list i × (owner_at owners i ≡ owner_at owners first)

abbrev pub RunEnd : List ℕ → List Owner → List ℕ → ℕ → ℕ → Type 0
RunEnd table owners list first last = IsWithin table list first → first ≢ end_of_chain → IsRun table owners list first last
