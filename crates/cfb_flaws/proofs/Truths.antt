-- Owners, as they are known.
use Rattle.std.proofs.Common.{◌≡◌, ◌≢◌, ◌<◌, ◌≤◌, ◌⊎◌, ◌*◌, ◌/◌, inl, inr, ℕ, List, [], ◌∷◌, ◌++◌, Bool, true, false, length, refl, sym, ◌∙◌, ap, subst, arith}
use Rattle.std.specs.Prelude.{Contains, IsTrue, slice_index, filter, flat_map, Option, Some, None, IsSome, unwrap_or, if◌then◌else◌, ◌==◌, ◌&&◌, not, cond}
use Rattle.cfb_format.specs.declared.version.Version.{Version}
use Rattle.cfb_format.specs.declared.version.Version.TheVariants.{V3, V4}
use Rattle.cfb_format.specs.Bytes.{end_of_chain, free_sector, is_regular, max_regular_sector, sector_len}
use Rattle.cfb_format.specs.Chain.{Follows, chain_from, value}
use Rattle.cfb_format.specs.Content.{content_chain, is_large, mini_chain, mini_sector_len, mini_stream_chain, sector_chain}
use Rattle.cfb_format.specs.Fat.{is_among}
use Rattle.cfb_format.specs.Names.{Cases}
use Rattle.cfb_format.specs.DirectoryEntry.{Entry}
use Rattle.cfb_format.specs.Reading.{Reading, Reads, root_entry}
use Rattle.cfb_format.specs.Siblings.{entry_at}
use Rattle.cfb_format.specs.Soundness.{Owner as OwnerOf, fat_table, difat_table, directory_of_file, minifat_table, mini_stream, one_stream, is_free, no_owner, first_owner, owner, mini_owner, streams, large_streams, small_streams, sectors_of, mini_sectors_of, mini_stream_sectors}
use Rattle.cfb_format.proofs.Chains.{chain_from-IsChain}
use Rattle.cfb_format.proofs.Members.{Contains-here, Contains-there, Contains-cases, Contains-nil, Contains-among, among-Contains, among-not}
use Rattle.cfb_format.proofs.Walks.{chain_of as as_chain, follows-next, le-regular, value-at}
use Rattle.std.proofs.lemmas.Bool.{cases_lt}
use Rattle.std.proofs.lemmas.List.{get_or_past}
use Rattle.std.proofs.lemmas.List.Elements.{Contains-append_left, Contains-append_right}
use Rattle.cfb_soundness.proofs.Others.{in-filter}
use Rattle.cfb_soundness.proofs.MarkLemmas.{true_false}
use Rattle.cfb_flaws.specs.declared.owner.Owner.{Owner}
use Rattle.cfb_flaws.specs.declared.owner.Owner.TheVariants.{Fat as FatOwner, Difat, Directory, Minifat as MinifatOwner, MiniStream, Stream, Free, Unused}
use Rattle.cfb_flaws.specs.declared.owner.Table.{Table}
use Rattle.cfb_flaws.specs.declared.owner.Table.TheVariants.{Fat, Minifat}
use Rattle.cfb_flaws.specs.declared.known.Known.{Known}
use Rattle.cfb_flaws.specs.Owners.{AreKept, AreOwners, is_chained, is_unused, meant, owner_at}
use Rattle.cfb_flaws.specs.Claims.{chain_of, members_in, words_in, words_of}
use Rattle.cfb_flaws.specs.Flaws.{Has, owner_in}
use Rattle.cfb_flaws.specs.Telling.{KnowsFile, owners_of}
use Rattle.cfb_flaws.proofs.Claiming.{tables-begin-none}

-- ---- owners

pub unused-is : (o : Owner) → is_unused o ≡ true → o ≡ Unused
unused-is FatOwner e = let f : false ≡ true = e in cc
unused-is Difat e = let f : false ≡ true = e in cc
unused-is Directory e = let f : false ≡ true = e in cc
unused-is MinifatOwner e = let f : false ≡ true = e in cc
unused-is MiniStream e = let f : false ≡ true = e in cc
unused-is (Stream k) e = let f : false ≡ true = e in cc
unused-is Free e = let f : false ≡ true = e in cc
unused-is Unused e = refl

pub used-not : (o : Owner) → is_unused o ≡ false → o ≢ Unused
used-not o e is = true_false (is_unused Unused) refl (sym (ap is_unused is) ∙ e)

module _ {A : Type 0} (known : Known A) (bytes : List ℕ) (r : Reading) (knows : KnowsFile known bytes r) where
  pub owners-len : (t : Table) → length (owners_of t known) ≡ length (words_of t r)
  owners-len Fat = knows.sectors.len
  owners-len Minifat = knows.mini_sectors.len

  pub owner-known : (t : Table) (i : ℕ) → i < length (owners_of t known) → meant (owner_at (owners_of t known) i) ≡ owner_in t r i
  owner-known Fat i lt = knows.sectors.each i (let l = knows.sectors.len in omega (arith, lt, l))
  owner-known Minifat i lt = knows.mini_sectors.each i (let l = knows.mini_sectors.len in omega (arith, lt, l))

  pub words-known : (t : Table) → words_in t known.parts.now ≡ words_of t r
  words-known Fat = knows.parts.fat
  words-known Minifat = knows.parts.minifat

  pub value-known : (t : Table) (i : ℕ) → i < length (words_in t known.parts.now) → value (words_of t r) i ≡ slice_index (words_in t known.parts.now) i
  value-known t i lt = ap (λ (z : List ℕ). value z i) (sym (words-known t)) ∙ value-at (words_in t known.parts.now) i lt

-- ---- lists of streams

first-hit : (f : ℕ → List ℕ) (i : ℕ) (other : OwnerOf) (xs : List ℕ) (k : ℕ) → Contains xs k → is_among (f k) i ≡ true → (j : ℕ) × (first_owner f i other xs ≡ one_stream j)
first-hit f i other [] k m e = absurd (Contains-nil k m)
first-hit f i other (x ∷ xs) k m e = go (is_among (f x) i) refl (Contains-cases x xs k m) (λ c. first-hit f i other xs k c e)
  where
    go : (b : Bool) → is_among (f x) i ≡ b → (x ≡ k) ⊎ Contains xs k → (Contains xs k → (j : ℕ) × (first_owner f i other xs ≡ one_stream j))
        → (j : ℕ) × ((if b then one_stream x else first_owner f i other xs) ≡ one_stream j)
    go true h c next = (x, refl)
    go false h (inl same) next = absurd (true_false (is_among (f k) i) e (ap (λ (n : ℕ). is_among (f n) i) (sym same) ∙ h))
    go false h (inr rest) next = next rest

-- what the format names a chain's owner
pub of-chain : OwnerOf → Bool
of-chain fat_table = false
of-chain difat_table = false
of-chain directory_of_file = true
of-chain minifat_table = true
of-chain mini_stream = true
of-chain (one_stream k) = true
of-chain is_free = false
of-chain no_owner = false

pub meant-chained : (o : Owner) → of-chain (meant o) ≡ is_chained o
unfolding of-chain
meant-chained FatOwner = refl
meant-chained Difat = refl
meant-chained Directory = refl
meant-chained MinifatOwner = refl
meant-chained MiniStream = refl
meant-chained (Stream k) = refl
meant-chained Free = refl
meant-chained Unused = refl

first-found : (f : ℕ → List ℕ) (i : ℕ) (other : OwnerOf) → of-chain other ≡ false → (xs : List ℕ) → of-chain (first_owner f i other xs) ≡ true → (k : ℕ) × Contains (f k) i
unfolding of-chain
first-found f i other none [] e = absurd (true_false (of-chain other) e none)
first-found f i other none (x ∷ xs) e = go (is_among (f x) i) refl e (λ h. first-found f i other none xs h)
  where
    go : (b : Bool) → is_among (f x) i ≡ b → of-chain (if b then one_stream x else first_owner f i other xs) ≡ true
        → (of-chain (first_owner f i other xs) ≡ true → (k : ℕ) × Contains (f k) i) → (k : ℕ) × Contains (f k) i
    go true h e next = (x, among-Contains (f x) i h)
    go false h e next = next e

free-or-none : (w : ℕ) → of-chain (if w == free_sector then is_free else no_owner) ≡ false
unfolding of-chain
free-or-none w = go (w == free_sector)
  where
    go : (b : Bool) → of-chain (if b then is_free else no_owner) ≡ false
    go true = refl
    go false = refl

-- ---- chains and their members

pub some-chain : (o : Option (List ℕ)) → (o ≡ None) ⊎ ((list : List ℕ) × (o ≡ Some list))
some-chain None = inl refl
some-chain (Some list) = inr (list, refl)

-- from a member on it is a chain too
pub from-member : (table : List ℕ) (s : ℕ) (xs : List ℕ) (i : ℕ) → Follows table s xs → Contains xs i
    → (ys : List ℕ) × Follows table i ys × ((j : ℕ) → Contains ys j → Contains xs j)
from-member table s [] i f m = absurd (Contains-nil i m)
from-member table s (x ∷ xs) i f m = go (Contains-cases x xs i m) (λ r. from-member table (slice_index table x) xs i f.3 r)
  where
    go : (x ≡ i) ⊎ Contains xs i → (Contains xs i → (ys : List ℕ) × Follows table i ys × ((j : ℕ) → Contains ys j → Contains xs j))
        → (ys : List ℕ) × Follows table i ys × ((j : ℕ) → Contains ys j → Contains (x ∷ xs) j)
    go (inl same) next = (x ∷ xs, subst (λ (k : ℕ). Follows table k (x ∷ xs)) (f.0 ∙ same) f, λ j c. c)
    go (inr rest) next = let n = next rest in (n.0, n.1, λ j c. Contains-there x xs j (n.2 j c))

in-chain : (table : List ℕ) (s i : ℕ) → Contains (chain_of table s) i → (list : List ℕ) × Follows table i list
in-chain table s i m = go (chain_from table s) refl m
  where
    go : (o : Option (List ℕ)) → chain_from table s ≡ o → Contains (unwrap_or o []) i → (list : List ℕ) × Follows table i list
    go None e m = absurd (Contains-nil i m)
    go (Some list) e m = let f = from-member table s list i ((chain_from-IsChain table s list).0 e).follows m in (f.0, f.1)

-- a chain's first member is its start
pub starts-in : (table : List ℕ) (s : ℕ) (list : List ℕ) → s ≢ end_of_chain → Follows table s list → Contains list s
starts-in table s list ne f =
    let n = follows-next table s list ne f in
    subst (λ (z : List ℕ). Contains z s) (sym n.1) (Contains-here s n.0)

-- ---- what has a chain's owner lies on a chain, and the other way round

in-mini-stream : (r : Reading) (i : ℕ) → Contains (mini_stream_sectors r) i → (list : List ℕ) × Follows r.fat i list
in-mini-stream r i m = go ((root_entry r).stream_len == 0 && not (is_regular (root_entry r).start_sector)) m
  where
    go : (b : Bool) → Contains (unwrap_or (if b then Some [] else chain_from r.fat (root_entry r).start_sector) []) i → (list : List ℕ) × Follows r.fat i list
    go true m = absurd (Contains-nil i m)
    go false m = in-chain r.fat (root_entry r).start_sector i m

in-mini-chain : (r : Reading) (e : Entry) (i : ℕ) → Contains (unwrap_or (mini_chain r e) []) i → (list : List ℕ) × Follows r.minifat i list
in-mini-chain r e i m = go (e.stream_len == 0) m
  where
    go : (b : Bool) → Contains (unwrap_or (if b then Some [] else chain_from r.minifat e.start_sector) []) i → (list : List ℕ) × Follows r.minifat i list
    go true m = absurd (Contains-nil i m)
    go false m = in-chain r.minifat e.start_sector i m

pub of-chain-follows : (cases : Cases) (bytes : List ℕ) (r : Reading) → Reads cases bytes r → (t : Table) (i : ℕ) → of-chain (owner_in t r i) ≡ true
    → (list : List ℕ) × Follows (words_of t r) i list
unfolding of-chain
of-chain-follows cases bytes r reads Minifat i e =
    let k = first-found (mini_sectors_of r) i (if slice_index r.minifat i == free_sector then is_free else no_owner) (free-or-none (slice_index r.minifat i)) (small_streams r) e in
    in-mini-chain r (entry_at r.entries k.0) i k.1
of-chain-follows cases bytes r reads Fat i e =
    go (is_among r.fat_sectors i) (is_among r.difat_sectors i) (is_among r.directory i) refl (is_among r.minifat_sectors i) refl (is_among (mini_stream_sectors r) i) refl e
  where
    go : (a b c : Bool) → is_among r.directory i ≡ c → (d : Bool) → is_among r.minifat_sectors i ≡ d → (g : Bool) → is_among (mini_stream_sectors r) i ≡ g
        → of-chain (if a then fat_table else if b then difat_table else if c then directory_of_file else if d then minifat_table else if g then mini_stream
        else first_owner (sectors_of r) i (if slice_index r.fat i == free_sector then is_free else no_owner) (large_streams r)) ≡ true
        → (list : List ℕ) × Follows r.fat i list
    go true b c ec d ed g eg e = let f : false ≡ true = e in cc
    go false true c ec d ed g eg e = let f : false ≡ true = e in cc
    go false false true ec d ed g eg e =
        let f = from-member r.fat r.header.first_dir_sector r.directory i reads.directory.chain.follows (among-Contains r.directory i ec) in (f.0, f.1)
    go false false false ec true ed g eg e =
        let f = from-member r.fat r.header.first_minifat_sector r.minifat_sectors i reads.minifat.chain.follows (among-Contains r.minifat_sectors i ed) in (f.0, f.1)
    go false false false ec false ed true eg e = in-mini-stream r i (among-Contains (mini_stream_sectors r) i eg)
    go false false false ec false ed false eg e =
        let k = first-found (sectors_of r) i (if slice_index r.fat i == free_sector then is_free else no_owner) (free-or-none (slice_index r.fat i)) (large_streams r) e in
        in-chain r.fat (entry_at r.entries k.0).start_sector i k.1

module _ (cases : Cases) (bytes : List ℕ) (r : Reading) (reads : Reads cases bytes r) (i : ℕ) where
  sector-chained : (list : List ℕ) → Follows r.fat i list
      → (is_among r.directory i ≡ false → is_among r.minifat_sectors i ≡ false → is_among (mini_stream_sectors r) i ≡ false
      → of-chain (first_owner (sectors_of r) i (if slice_index r.fat i == free_sector then is_free else no_owner) (large_streams r)) ≡ true)
      → of-chain (owner r i) ≡ true
  unfolding of-chain
  sector-chained list f else-stream =
      go (is_among r.fat_sectors i) refl (is_among r.difat_sectors i) refl (is_among r.directory i) refl (is_among r.minifat_sectors i) refl (is_among (mini_stream_sectors r) i) refl
    where
      go : (a : Bool) → is_among r.fat_sectors i ≡ a → (b : Bool) → is_among r.difat_sectors i ≡ b → (c : Bool) → is_among r.directory i ≡ c
          → (d : Bool) → is_among r.minifat_sectors i ≡ d → (g : Bool) → is_among (mini_stream_sectors r) i ≡ g
          → of-chain (if a then fat_table else if b then difat_table else if c then directory_of_file else if d then minifat_table else if g then mini_stream
          else first_owner (sectors_of r) i (if slice_index r.fat i == free_sector then is_free else no_owner) (large_streams r)) ≡ true
      go true ea b eb c ec d ed g eg = absurd (tables-begin-none cases bytes r reads i (Contains-append_left r.fat_sectors r.difat_sectors i (among-Contains r.fat_sectors i ea)) list f)
      go false ea true eb c ec d ed g eg = absurd (tables-begin-none cases bytes r reads i (Contains-append_right r.fat_sectors r.difat_sectors i (among-Contains r.difat_sectors i eb)) list f)
      go false ea false eb true ec d ed g eg = refl
      go false ea false eb false ec true ed g eg = refl
      go false ea false eb false ec false ed true eg = refl
      go false ea false eb false ec false ed false eg = else-stream ec ed eg

  pub has-chained : (t : Table) (o : Owner) → is_chained o ≡ true → Has t r o i → (list : List ℕ) → Follows (words_of t r) i list → of-chain (owner_in t r i) ≡ true
  unfolding of-chain
  has-chained Fat FatOwner c h list f = let g : false ≡ true = c in cc
  has-chained Fat Difat c h list f = let g : false ≡ true = c in cc
  has-chained Fat Directory c h list f = sector-chained list f (λ ec ed eg. absurd (among-not r.directory i ec h))
  has-chained Fat MinifatOwner c h list f = sector-chained list f (λ ec ed eg. absurd (among-not r.minifat_sectors i ed h))
  has-chained Fat MiniStream c h list f = sector-chained list f (λ ec ed eg. absurd (among-not (mini_stream_sectors r) i eg h))
  has-chained Fat (Stream k) c h list f = sector-chained list f (λ ec ed eg.
      ap of-chain (first-hit (sectors_of r) i (if slice_index r.fat i == free_sector then is_free else no_owner) (large_streams r) k h.0 (Contains-among (sectors_of r k) i h.1)).1)
  has-chained Fat Free c h list f = let g : false ≡ true = c in cc
  has-chained Fat Unused c h list f = let g : false ≡ true = c in cc
  has-chained Minifat FatOwner c h list f = absurd h
  has-chained Minifat Difat c h list f = absurd h
  has-chained Minifat Directory c h list f = absurd h
  has-chained Minifat MinifatOwner c h list f = absurd h
  has-chained Minifat MiniStream c h list f = absurd h
  has-chained Minifat (Stream k) c h list f =
      ap of-chain (first-hit (mini_sectors_of r) i (if slice_index r.minifat i == free_sector then is_free else no_owner) (small_streams r) k h.0 (Contains-among (mini_sectors_of r k) i h.1)).1
  has-chained Minifat Free c h list f = absurd h
  has-chained Minifat Unused c h list f = absurd h

-- the same of what is known

module _ {A : Type 0} (known : Known A) (cases : Cases) (bytes : List ℕ) (r : Reading) (reads : Reads cases bytes r) (knows : KnowsFile known bytes r) (t : Table) where
  -- where a number has a chain's owner, a chain begins there
  pub chained-follows : (i : ℕ) → is_chained (owner_at (owners_of t known) i) ≡ true → (list : List ℕ) × Follows (words_of t r) i list
  unfolding of-chain
  chained-follows i e = elim (cases_lt i (length (owners_of t known))) [
    | inl lt ↦ of-chain-follows cases bytes r reads t i (sym (ap of-chain (owner-known known bytes r knows t i lt)) ∙ meant-chained (owner_at (owners_of t known) i) ∙ e)
    | inr ge ↦ absurd (true_false (is_chained (owner_at (owners_of t known) i)) e (ap is_chained (get_or_past (owners_of t known) i Unused ge)))
  ]

  -- and where one begins that an owner has, the number has a chain's owner
  pub follows-chained : (o : Owner) (i : ℕ) (list : List ℕ) → is_chained o ≡ true → i ≢ end_of_chain → Follows (words_of t r) i list → Has t r o i
      → is_chained (owner_at (owners_of t known) i) ≡ true
  follows-chained o i list c ne f h =
      let below : i < length (words_of t r) = (follows-next (words_of t r) i list ne f).2 in
      let len = owners-len known bytes r knows t in
      sym (meant-chained (owner_at (owners_of t known) i)) ∙ ap of-chain (owner-known known bytes r knows t i (omega (arith, below, len))) ∙ has-chained cases bytes r reads i t o c h list f

-- ---- what streams have

pub members-has : (t : Table) (r : Reading) (k : ℕ) → Contains (streams r) k → (i : ℕ) → Contains (members_in t r (entry_at r.entries k)) i → Has t r (Stream k) i
members-has Fat r k m i c = go (is_large (entry_at r.entries k)) refl c
  where
    go : (b : Bool) → is_large (entry_at r.entries k) ≡ b → Contains (if b then unwrap_or (sector_chain r (entry_at r.entries k)) [] else []) i
        → Contains (large_streams r) k × Contains (sectors_of r k) i
    go true e c = (in-filter (λ j. is_large (entry_at r.entries j)) (streams r) k m e, c)
    go false e c = absurd (Contains-nil i c)
members-has Minifat r k m i c = go (is_large (entry_at r.entries k)) refl c
  where
    go : (b : Bool) → is_large (entry_at r.entries k) ≡ b → Contains (if b then [] else unwrap_or (mini_chain r (entry_at r.entries k)) []) i
        → Contains (small_streams r) k × Contains (mini_sectors_of r k) i
    go true e c = absurd (Contains-nil i c)
    go false e c = (in-filter (λ j. not (is_large (entry_at r.entries j))) (streams r) k m (ap not e), c)

-- ---- the mini stream

-- the mini stream has room for so many mini sectors
pub room-is : (v : Version) (n room : ℕ) → room ≡ n * (sector_len v / 64) → room * 64 ≡ n * sector_len v
room-is V3 n room e = omega (arith, e)
room-is V4 n room e = omega (arith, e)

-- where the mini stream has no sector, and yet a start, it has no chain
pub mini-stream-none : (r : Reading) (start : ℕ) → mini_stream_chain r ≡ chain_from r.fat start → start ≢ end_of_chain → mini_stream_sectors r ≡ []
    → mini_stream_chain r ≡ None
mini-stream-none r start chain ne none = elim (some-chain (mini_stream_chain r)) [
  | inl is ↦ is
  | inr some ↦
      let f : Follows r.fat start some.0 = ((chain_from-IsChain r.fat start some.0).0 (sym chain ∙ some.1)).follows in
      let empty : some.0 ≡ [] = sym (ap (λ (o : Option (List ℕ)). unwrap_or o []) some.1) ∙ none in
      absurd (Contains-nil start (subst (λ (z : List ℕ). Contains z start) empty (starts-in r.fat start some.0 ne f)))
]
