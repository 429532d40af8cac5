-- Which numbers of a table are in use, and how that changes as chains grow and are freed.
use Rattle.std.specs.Prelude.{ℕ, suc, ◌≡◌, ◌≢◌, ◌+◌, ◌<◌, List, [], ◌∷◌, ◌++◌, length, nat_eq, Contains, IsTrue, if◌then◌else◌}
use Rattle.std.specs.List.{IsDistinct}
use Rattle.cfb_format.specs.Bytes.{free_sector, is_regular}
use Rattle.cfb_format.specs.Chain.{value, IsChain}
use Rattle.cfb_format.specs.Soundness.{KeepsLoose}
use Rattle.cfb_tables.specs.Changes.{ChangesOnlyValues, GivesBack}
use Rattle.cfb_tables.specs.Clean.{IsUnnamed}
use Rattle.cfb_tables.specs.Tables.{TableState, HasTaken}

-- nothing is used twice, what is used isn't free, and what is loose points to loose numbers alone
pub record Uses (table used : List ℕ) : Type 0 where
  pub distinct : IsDistinct nat_eq used
  pub there : (i : ℕ) → Contains used i → value table i ≢ free_sector
  pub loose : KeepsLoose table used

-- nothing is loose
abbrev pub AllUsed : List ℕ → List ℕ → Type 0
AllUsed table used = (i : ℕ) → value table i ≢ free_sector → Contains used i

-- from one table and what is used of it to the next: what is taken was free, what is given back is free, the rest stays
pub record UseChanges (old used new used' : List ℕ) : Type 0 where
  pub distinct : IsDistinct nat_eq used → IsDistinct nat_eq used'
  pub there : ((i : ℕ) → Contains used i → value old i ≢ free_sector) → (i : ℕ) → Contains used' i → value new i ≢ free_sector
  pub taken : (i : ℕ) → Contains used' i → (Contains used i → ⊥) → value old i ≡ free_sector
  pub given_back : (i : ℕ) → Contains used i → (Contains used' i → ⊥) → value new i ≡ free_sector
  pub stays : (i : ℕ) → (Contains used i → ⊥) → (Contains used' i → ⊥) → value new i ≡ value old i

-- numbers are taken for the owner of xs: a chain is begun (xs empty) or grown, or a table sector is added
pub record Takes (old new xs more : List ℕ) : Type 0 where
  pub only : ChangesOnlyValues (xs ++ more) old new
  pub once : IsDistinct nat_eq more
  pub fresh : (i : ℕ) → Contains more i → value old i ≡ free_sector
  pub busy : (i : ℕ) → Contains (xs ++ more) i → value new i ≢ free_sector

-- the owner of xs keeps these and gives the others back: a chain is cut, or freed (xs empty)
pub record Frees (old new xs gone : List ℕ) : Type 0 where
  pub only : ChangesOnlyValues (xs ++ gone) old new
  pub free : (i : ℕ) → Contains gone i → value new i ≡ free_sector
  pub busy : (i : ℕ) → Contains xs i → value new i ≢ free_sector

-- how often a number stands in a list
abbrev pub tally : ℕ → List ℕ → ℕ
tally k [] = 0
tally k (n ∷ list) = if nat_eq k n then suc (tally k list) else tally k list

-- what a member of the list points to is a member
abbrev pub IsClosedUnder : List ℕ → List ℕ → Type 0
IsClosedUnder table xs = (i : ℕ) → Contains xs i → IsTrue (is_regular (value table i)) → Contains xs (value table i)

-- ---- laws

abbrev pub UsesAreKept : Type 0
UsesAreKept = (old used new used' : List ℕ) → UseChanges old used new used' → Uses old used → Uses new used'

abbrev pub NothingLooseIsKept : Type 0
NothingLooseIsKept = (old used new used' : List ℕ) → UseChanges old used new used' → AllUsed old used → AllUsed new used'

abbrev pub UseChangesFollow : Type 0
UseChangesFollow = (old used mid used' new used'' : List ℕ) → UseChanges old used mid used' → UseChanges mid used' new used'' → UseChanges old used new used''

abbrev pub TakingChanges : Type 0
TakingChanges = (old new front xs more back : List ℕ) → Takes old new xs more → ((i : ℕ) → Contains (front ++ xs ++ back) i → value old i ≢ free_sector)
    → UseChanges old (front ++ xs ++ back) new (front ++ (xs ++ more) ++ back)

abbrev pub FreeingChanges : Type 0
FreeingChanges = (old new front xs gone back : List ℕ) → Frees old new xs gone → IsDistinct nat_eq (front ++ (xs ++ gone) ++ back)
    → UseChanges old (front ++ (xs ++ gone) ++ back) new (front ++ xs ++ back)

-- what the tables take is taken in this sense, the new FAT sectors and DIFAT sectors among it
abbrev pub TakenIsTaking : Type 0
TakenIsTaking = (old new : TableState) (touched more : List ℕ) (taken : HasTaken old new touched more)
    → Takes old.fat new.fat touched (more ++ taken.fats ++ taken.difats)

-- what is freed is given back
abbrev pub GivenBackIsFreeing : Type 0
GivenBackIsFreeing = (old new ends gone : List ℕ) → GivesBack ends gone old new → Frees old new ends gone

-- ---- laws by counts: where the numbers stand among those in use is no matter

abbrev pub TallyOfBoth : Type 0
TallyOfBoth = (k : ℕ) (xs ys : List ℕ) → tally k (xs ++ ys) ≡ tally k xs + tally k ys

abbrev pub TakingByCount : Type 0
TakingByCount = (old new xs more used used' : List ℕ) → Takes old new xs more → ((i : ℕ) → Contains xs i → Contains used i)
    → ((i : ℕ) → Contains used i → value old i ≢ free_sector) → ((k : ℕ) → tally k used' ≡ tally k used + tally k more)
    → UseChanges old used new used'

abbrev pub FreeingByCount : Type 0
FreeingByCount = (old new xs gone used used' : List ℕ) → Frees old new xs gone → ((i : ℕ) → Contains xs i → Contains used' i)
    → IsDistinct nat_eq used → ((k : ℕ) → tally k used ≡ tally k used' + tally k gone)
    → UseChanges old used new used'

-- ---- laws of closed lists

abbrev pub ChainsAreClosed : Type 0
ChainsAreClosed = (table : List ℕ) (start : ℕ) (list : List ℕ) → IsChain table start list → IsClosedUnder table list

-- marks point nowhere
abbrev pub MarksAreClosed : Type 0
MarksAreClosed = (table xs : List ℕ) → ((i : ℕ) → Contains xs i → IsTrue (is_regular (value table i)) → ⊥) → IsClosedUnder table xs

abbrev pub ClosedTogether : Type 0
ClosedTogether = (table xs ys : List ℕ) → IsClosedUnder table xs → IsClosedUnder table ys → IsClosedUnder table (xs ++ ys)

-- nothing names the start of a chain in use
abbrev pub OwnedStartIsUnnamed : Type 0
OwnedStartIsUnnamed = (table front list back : List ℕ) (start : ℕ) → Uses table (front ++ list ++ back) → IsChain table start list → 0 < length list
    → IsClosedUnder table front → IsClosedUnder table back → IsUnnamed table start
