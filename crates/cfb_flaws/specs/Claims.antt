-- How numbers of a table get owners, list by list.
use Rattle.std.specs.Prelude.{ℕ, ◌≡◌, ◌≢◌, ◌<◌, ◌≤◌, ◌⊎◌, List, [], ◌∷◌, Bool, true, false, ◌&&◌, length, slice_index, unwrap_or, Contains, IsTrue, if◌then◌else◌, ◌==◌}
use Rattle.cfb_format.specs.Bytes.{end_of_chain, free_sector, is_regular, max_regular_sector}
use Rattle.cfb_format.specs.Chain.{Follows, chain_from}
use Rattle.cfb_format.specs.Content.{is_large}
use Rattle.cfb_format.specs.Fat.{is_among}
use Rattle.cfb_format.specs.DirectoryEntry.{Entry}
use Rattle.cfb_format.specs.Reading.{Reading}
use Rattle.cfb_soundness.specs.declared.parts.Parts.{Parts}
use Rattle.cfb_soundness.specs.Marks.{mark_at}
use Rattle.cfb_soundness.specs.Streams.{own_sectors, own_mini_sectors}
use Rattle.cfb_flaws.specs.declared.owner.Table.{Table}
use Rattle.cfb_flaws.specs.declared.owner.Table.TheVariants.{Fat, Minifat}
use Rattle.cfb_flaws.specs.declared.owner.Owner.{Owner}
use Rattle.cfb_flaws.specs.declared.owner.Owner.TheVariants.{Stream, Free, Unused}
use Rattle.cfb_flaws.specs.Owners.{is_unused, is_chained, owner_at}

-- from s, each member is a number of the table and leads to the next one, and the last leads to t
abbrev pub IsPath : List ℕ → ℕ → List ℕ → ℕ → Type 0
IsPath table s [] t = s ≡ t
IsPath table s (i ∷ path) t = (s ≡ i) × (s ≢ end_of_chain) × (i < length table) × IsPath table (slice_index table i) path t × IsTrue (is_regular i)

-- a walk stops at the end, at what is no number of the table, and at what was seen
abbrev pub Stops : List ℕ → List Bool → ℕ → Type 0
Stops table seen next = next ≢ end_of_chain → next ≤ max_regular_sector → next < length table → mark_at seen next ≡ true

-- the chain from there; no number where there is none
abbrev pub chain_of : List ℕ → ℕ → List ℕ
chain_of table start = unwrap_or (chain_from table start) []

-- the numbers of the path have this owner now, and the others the one that they had
pub record Given (old : List Owner) (path : List ℕ) (owner : Owner) (new : List Owner) : Type 0 where
  pub len : length new ≡ length old
  pub given : (i : ℕ) → Contains path i → owner_at new i ≡ owner
  pub others : (i : ℕ) → (Contains path i → ⊥) → owner_at new i ≡ owner_at old i

-- the walk comes to the end, or to a chain that has an owner
abbrev pub Arrives : List Owner → ℕ → Type 0
Arrives owners next = (next ≡ end_of_chain) ⊎ (is_chained (owner_at owners next) ≡ true)

-- who has it once this owner claims it, or does not
abbrev pub claimed_by : Owner → Bool → Owner → Owner
claimed_by old claims owner = if is_unused old && claims then owner else old

-- this owner got the numbers of the list that had none
pub record Claimed (old : List Owner) (list : List ℕ) (owner : Owner) (new : List Owner) : Type 0 where
  pub len : length new ≡ length old
  pub each : (i : ℕ) → i < length old → owner_at new i ≡ claimed_by (owner_at old i) (is_among list i) owner

-- who has the number once streams with these members have claimed it in turn
abbrev pub first_claim : (ℕ → List ℕ) → ℕ → Owner → List ℕ → Owner
first_claim members i old [] = old
first_claim members i old (k ∷ rest) = first_claim members i (claimed_by old (is_among (members k) i) (Stream k)) rest

-- these streams got in turn the members that had no owner
pub record ClaimedInTurn (old : List Owner) (members : ℕ → List ℕ) (list : List ℕ) (new : List Owner) : Type 0 where
  pub len : length new ≡ length old
  pub each : (i : ℕ) → i < length old → owner_at new i ≡ first_claim members i (owner_at old i) list

-- what has no owner is free if its word says so
abbrev pub freed : Owner → ℕ → Owner
freed old word = if is_unused old && (word == free_sector) then Free else old

-- each number that had no owner is free now where its word says so
pub record Freed (table : List ℕ) (old new : List Owner) : Type 0 where
  pub len : length new ≡ length old
  pub each : (i : ℕ) → i < length old → owner_at new i ≡ freed (owner_at old i) (slice_index table i)

-- the words of that table
abbrev pub words_in : {A : Type 0} → Table → Parts A → List ℕ
words_in Fat parts = parts.fat.now
words_in Minifat parts = parts.minifat.now

-- what a stream has in that table
abbrev pub members_in : Table → Reading → Entry → List ℕ
members_in Fat r e = own_sectors r e
members_in Minifat r e = own_mini_sectors r e

-- the words of that table in a file
abbrev pub words_of : Table → Reading → List ℕ
words_of Fat r = r.fat
words_of Minifat r = r.minifat

-- the stream is not empty, and lies in that table
pub record LiesIn (t : Table) (e : Entry) : Type 0 where
  pub table : t ≡ (if is_large e then Fat else Minifat)
  pub some : 0 < e.stream_len

-- what the walks so far know: a chain that has an owner is one, and has an owner throughout; what was seen and has no such owner begins no
-- chain; and what has an owner was seen
pub record IsKnown (table : List ℕ) (owners : List Owner) (seen : List Bool) : Type 0 where
  pub chained : (i : ℕ) → is_chained (owner_at owners i) ≡ true
      → (list : List ℕ) × Follows table i list × ((j : ℕ) → Contains list j → is_chained (owner_at owners j) ≡ true)
  pub broken : (i : ℕ) → mark_at seen i ≡ true → is_chained (owner_at owners i) ≡ false → (list : List ℕ) → Follows table i list → ⊥
  pub noted : (i : ℕ) → is_unused (owner_at owners i) ≡ false → mark_at seen i ≡ true

-- no number has an owner yet, and none was seen
pub record IsNew (owners : List Owner) (seen : List Bool) : Type 0 where
  pub unowned : (i : ℕ) → owner_at owners i ≡ Unused
  pub unseen : (i : ℕ) → mark_at seen i ≡ false
