-- The MiniFAT in memory (MS-CFB 2.4): what is read, what is taken of it and given back, and that it then ends at an entry in use.
use Rattle.std.specs.Prelude.{ℕ, ◌≡◌, ◌≢◌, ◌+◌, ◌-◌, ◌<◌, ◌≤◌, ◌⊎◌, List, [], ◌∷◌, ◌++◌, length, take, nat_eq, true, Contains, ◌==◌}
use Rattle.std.specs.List.{IsDistinct, list_all}
use Rattle.cfb_format.specs.Bytes.{end_of_chain, free_sector, max_regular_sector, points_below}
use Rattle.cfb_format.specs.Chain.{value}
use Rattle.cfb_format.specs.Fat.{HasDistinctPointers, without_end}
use Rattle.cfb_format.specs.Full.{free_count}
use Rattle.cfb_format.specs.Header.{IfStrict}
use Rattle.cfb_format.specs.declared.validate.Validation.{Validation}
use Rattle.cfb_tables.specs.Changes.{ChangesOnlyValues, NoneFree}

-- ---- the end of the table

-- the table without the free entries at its end
abbrev pub trimmed : List ℕ → List ℕ
trimmed table = without_end (λ word. word == free_sector) table

-- the table ends at an entry that is not free
abbrev pub EndsBusy : List ℕ → Type 0
EndsBusy table = 0 < length table → value table (length table - 1) ≢ free_sector

-- two tables have the same values
abbrev pub SameValues : List ℕ → List ℕ → Type 0
SameValues old new = (i : ℕ) → value new i ≡ value old i

-- a table that opening takes: each pointer is a number of it, none stands twice, and it is no longer than this
pub record IsMiniTable (limit : ℕ) (table : List ℕ) : Type 0 where
  pub short : length table ≤ limit
  pub in_range : list_all (points_below (length table)) table ≡ true
  pub pointers : HasDistinctPointers table

-- the entries that words make up, as far as the mini stream has so many mini sectors: those that are left may end free
abbrev pub read_entries : ℕ → List ℕ → List ℕ
read_entries most words = take most (trimmed words)

-- opening in this mode takes the words
pub record AcceptsMini (validation : Validation) (limit most : ℕ) (words : List ℕ) : Type 0 where
  pub table : IsMiniTable limit (read_entries most words)
  pub strict : IfStrict validation (length (trimmed words) ≤ most)

-- ---- the free numbers

-- the list has each free number of the table, once; a number in it that is past the end counts as free too
pub record ListsMiniFree (free table : List ℕ) : Type 0 where
  pub once : IsDistinct nat_eq free
  pub sound : (i : ℕ) → Contains free i → value table i ≡ free_sector
  pub whole : (i : ℕ) → i < length table → value table i ≡ free_sector → Contains free i

-- the table ends at an entry in use, or the free number at its end is the one to be taken next
abbrev pub TakesEndFirst : List ℕ → List ℕ → Type 0
TakesEndFirst free table = EndsBusy table ⊎ ((front : List ℕ) × (free ≡ front ++ (length table - 1) ∷ []))

-- ---- the table in memory

-- how many mini sectors there may be, the value of each one, and how long the table can become with the memory that it holds
pub record MiniTableState : Type 0 where
  pub limit : ℕ
  pub minifat : List ℕ
  pub room : ℕ

-- what is always so; the list of free numbers has a place for each number that can be in it, so that freeing asks for no memory
pub record IsMini (limit : ℕ) (minifat free : List ℕ) (unused places : ℕ) : Type 0 where
  pub listed : ListsMiniFree free minifat
  pub next : TakesEndFirst free minifat
  pub counted : unused ≡ free_count minifat
  pub short : length minifat ≤ limit
  pub limited : limit ≤ max_regular_sector
  pub table_places : length minifat ≤ places
  pub free_places : (i : ℕ) → Contains free i → i < places

-- ---- taking

-- so many mini sectors, of which the free ones are taken first, pass the limit
abbrev pub IsTooFewMini : ℕ → List ℕ → ℕ → Type 0
IsTooFewMini limit table count = limit < length table + (count - free_count table)

-- there is memory and there are numbers for so many
pub record IsPreparedMini (s : MiniTableState) (count : ℕ) : Type 0 where
  pub held : length s.minifat + (count - free_count s.minifat) ≤ s.room
  pub enough : length s.minifat + (count - free_count s.minifat) ≤ s.limit

-- `more` are taken for a chain, and its last member so far, if `touched` has one, may go on
pub record TakesMini (limit : ℕ) (old new touched more : List ℕ) : Type 0 where
  pub once : IsDistinct nat_eq more
  -- each was free, or is past the end of the old table
  pub fresh : (i : ℕ) → Contains more i → value old i ≡ free_sector
  pub below : (i : ℕ) → Contains more i → i < length new
  pub ended : (i : ℕ) → Contains touched i → value old i ≡ end_of_chain
  pub busy : (i : ℕ) → Contains (touched ++ more) i → (value new i ≤ max_regular_sector) ⊎ (value new i ≡ end_of_chain)
  pub only : ChangesOnlyValues (touched ++ more) old new
  -- the free numbers are taken first, then those past the end in order, and the table grows by no more
  pub left : free_count new ≡ free_count old - length more
  pub len : length new ≡ length old + (length more - free_count old)
  pub none_free : length old < length new → NoneFree new
  pub limited : length old < length new → length new ≤ limit
  -- a free number at the end is taken first, so that the table ends at an entry in use
  pub trimmed : 0 < length more → EndsBusy new
  pub stays_trimmed : EndsBusy old → EndsBusy new
  pub none : length more ≡ 0 → new ≡ old

-- ---- giving back

-- these numbers are given back: they are free now, a chain ends at each of `ends`, which has none or one, and no other value
-- changed; free entries at the end are dropped, unless none is given back
pub record MiniGivesBack (ends gone old new : List ℕ) : Type 0 where
  pub ended : (i : ℕ) → Contains ends i → value new i ≡ end_of_chain
  pub free : (i : ℕ) → Contains gone i → value new i ≡ free_sector
  pub only : ChangesOnlyValues (ends ++ gone) old new
  pub shorter : length new ≤ length old
  -- so many more are free as are given back, but for those that are dropped
  pub counted : free_count new + length old ≡ free_count old + length gone + length new
  pub trimmed : 0 < length gone → EndsBusy new
  pub stays_trimmed : EndsBusy old → EndsBusy new
  pub none : length gone ≡ 0 → new ≡ old

-- the numbers can be given back: each is in use, and none stands twice
pub record AreBusy (table list : List ℕ) : Type 0 where
  pub busy : (i : ℕ) → Contains list i → value table i ≢ free_sector
  pub once : IsDistinct nat_eq list

-- the listed mini sectors are free, and the chain that they were of ends before them; what was prepared stays so, and nothing but the table has changed
pub record GivesBackOnly (ends list : List ℕ) (old new : MiniTableState) : Type 0 where
  pub freed : MiniGivesBack ends list old.minifat new.minifat
  pub prepared : (count : ℕ) → IsPreparedMini old count → IsPreparedMini new count
  pub rest : new ≡ record old { minifat = new.minifat }
