-- The chain that a view of it keeps.
use Rattle.std.proofs.Common.{◌≡◌, ◌≢◌, ◌<◌, ◌≤◌, ◌+◌, ◌*◌, ◌/◌, ◌⊎◌, inl, inr, ℕ, List, [], ◌∷◌, Bool, true, false, refl, sym, ◌∙◌, ap, length, arith, ◌||◌}
use Rattle.std.specs.Prelude.{Some, Contains, slice_index, nat_eq}
use Rattle.std.specs.List.{list_any}
use Rattle.std.proofs.lemmas.List.Elements.{Contains-get_or}
use Rattle.std.proofs.lemmas.Map.Steps.{length-le_from_distinct_below}
use Rattle.std.proofs.lemmas.Map.Views.{exact_unsigned_eq}
use Rattle.cfb_format.specs.declared.error.Error.{Error}
use Rattle.cfb_format.specs.declared.error.Error.TheVariants.{NotFound, AlreadyExists, InvalidInput, InvalidData, Medium, Memory, Full, Unsound, Failed}
use Rattle.cfb_format.specs.declared.version.Version.{Version}
use Rattle.cfb_format.specs.declared.version.Version.TheVariants.{V3, V4}
use Rattle.cfb_format.specs.Bytes.{sector_len, max_regular_sector, end_of_chain}
use Rattle.cfb_format.specs.Chain.{Follows, IsChain, chain_from}
use Rattle.cfb_format.proofs.Chains.{chain_from-IsChain}
use Rattle.cfb_tables.specs.Changes.{NoChain}
use Rattle.cfb_tables.specs.Refused.{ChangeRefused}
use Rattle.cfb_tables.proofs.ChainLemmas.{members-busy}
use Rattle.cfb_format.proofs.Walks.{regular-le}

pub found_chain : (table : List ℕ) (s : ℕ) (ids : List ℕ) → chain_from table s ≡ Some ids → IsChain table s ids
found_chain table s ids e = (chain_from-IsChain table s ids).0 e

pub chain_found : (table : List ℕ) (s : ℕ) (ids : List ℕ) → IsChain table s ids → chain_from table s ≡ Some ids
chain_found table s ids c = (chain_from-IsChain table s ids).1 c

pub index_inside : (v : Version) (k m : ℕ) → k < m * sector_len v → k / sector_len v < m
index_inside V3 k m h = omega arith
index_inside V4 k m h = omega arith

-- the sector where a byte of it lies is one of its own
pub sector_member : (v : Version) (ids : List ℕ) (k : ℕ) → k < length ids * sector_len v → Contains ids (slice_index ids (k / sector_len v))
sector_member v ids k inside = Contains-get_or ids (k / sector_len v) 0 (index_inside v k (length ids) inside)

-- and one of the file
pub sector_inside : (v : Version) (table : List ℕ) (s : ℕ) (ids : List ℕ) (k : ℕ) → chain_from table s ≡ Some ids → k < length ids * sector_len v
    → slice_index ids (k / sector_len v) < length table
sector_inside v table s ids k e inside =
    (members-busy table s ids (found_chain table s ids e) (slice_index ids (k / sector_len v)) (Contains-get_or ids (k / sector_len v) 0 (index_inside v k (length ids) inside))).1

-- ---- how long it may be

regular_Follows : (table : List ℕ) (s : ℕ) (xs : List ℕ) → Follows table s xs → (q : ℕ) → list_any (nat_eq q) xs ≡ true → q < max_regular_sector + 1
regular_Follows table s [] f q e = cc
regular_Follows table s (x ∷ xs) f q e = go (nat_eq q x) refl (λ k. regular_Follows table (slice_index table x) xs f.3 q k)
  where
    go : (b : Bool) → nat_eq q x ≡ b → (list_any (nat_eq q) xs ≡ true → q < max_regular_sector + 1) → q < max_regular_sector + 1
    go true h more = let le = regular-le x f.4 in let is = exact_unsigned_eq q x h in omega (arith, le, is)
    go false h more = more (sym (ap (λ b. b || list_any (nat_eq q) xs) h) ∙ e)

pub chain_few : (table : List ℕ) (s : ℕ) (ids : List ℕ) → chain_from table s ≡ Some ids → length ids ≤ max_regular_sector + 1
chain_few table s ids e =
    let c = found_chain table s ids e in
    length-le_from_distinct_below ids (max_regular_sector + 1) c.distinct (regular_Follows table s ids c.follows)

-- ---- what it is not refused for

pub only_first : (first second memory full medium : Type 0) → (second → ⊥) → (e : Error) → ChangeRefused (first ⊎ second) memory full medium e
    → ChangeRefused first memory full medium e
only_first first second memory full medium never (InvalidData d) r = elim r [ inl a ↦ a | inr b ↦ absurd (never b) ]
only_first first second memory full medium never Memory r = r
only_first first second memory full medium never Full r = r
only_first first second memory full medium never (Medium f) r = r
only_first first second memory full medium never (NotFound d) r = absurd r
only_first first second memory full medium never (AlreadyExists d) r = absurd r
only_first first second memory full medium never (InvalidInput d) r = absurd r
only_first first second memory full medium never Unsound r = absurd r
only_first first second memory full medium never Failed r = absurd r

pub some_chain : (table : List ℕ) (s : ℕ) (ids : List ℕ) → chain_from table s ≡ Some ids → NoChain table s → ⊥
some_chain table s ids e none = none ids (found_chain table s ids e)

-- a chain with a member starts with a number
pub started : (table : List ℕ) (s : ℕ) (ids : List ℕ) → chain_from table s ≡ Some ids → 0 < length ids → s ≢ end_of_chain
started table s ids e some = begins ids (found_chain table s ids e).follows some
  where
    begins : (list : List ℕ) → Follows table s list → 0 < length list → s ≢ end_of_chain
    begins [] f more = absurd (omega arith)
    begins (i ∷ list) f more = f.1
