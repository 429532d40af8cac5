-- What is loose, by owners.
use Rattle.std.proofs.Common.{◌≡◌, ◌≢◌, ◌<◌, ◌≤◌, ◌⊎◌, inl, inr, ℕ, List, [], ◌∷◌, ◌++◌, Bool, true, false, length, refl, sym, ◌∙◌, ap, subst, arith, eq-eqb, ne_eqb}
use Rattle.std.specs.Prelude.{Contains, IsTrue, slice_index, flat_map, if◌then◌else◌, ◌==◌, ◌&&◌, ◌||◌, not, nat_le, nat_lt, slice_index_or}
use Rattle.std.proofs.lemmas.Bool.{leb-false, ltb-true}
use Rattle.std.proofs.lemmas.List.Elements.{Contains-append_left, Contains-append_right, Contains-append_cases, Contains-get_or}
use Rattle.cfb_format.specs.Bytes.{difat_sector, end_of_chain, fat_sector, free_sector, is_regular, points_below, sector_count}
use Rattle.cfb_format.specs.Chain.{value}
use Rattle.cfb_format.specs.Fat.{is_among, ended_past_file, fat_value, raw_fat}
use Rattle.cfb_format.specs.Names.{Cases}
use Rattle.cfb_format.specs.Reading.{Reading, Reads}
use Rattle.cfb_format.specs.Soundness.{Owner as OwnerOf, fat_table, difat_table, directory_of_file, minifat_table, mini_stream, one_stream, is_free, no_owner, first_owner, owner, mini_owner, IsLoose, large_streams, small_streams, sectors_of, mini_sectors_of, mini_stream_sectors, used_sectors, used_mini_sectors}
use Rattle.cfb_format.proofs.Members.{Contains-nil, Contains-cases, Contains-here, among-Contains, among-not, every_member, flat-Contains}
use Rattle.cfb_format.proofs.Walks.{value-at, value-below}
use Rattle.cfb_soundness.proofs.Decision.{known as known-of}
use Rattle.cfb_soundness.proofs.MarkLemmas.{true_false}
use Rattle.cfb_soundness.proofs.Others.{into-flat}
use Rattle.cfb_flaws.specs.declared.owner.Table.{Table}
use Rattle.cfb_flaws.specs.declared.owner.Table.TheVariants.{Fat, Minifat}
use Rattle.cfb_flaws.specs.Claims.{words_of}
use Rattle.cfb_flaws.specs.Flaws.{owner_in, used_in}
use Rattle.cfb_flaws.proofs.Claiming.{fat-value-at}

-- nothing uses it, as the format names it
unfoldable pub is-none : OwnerOf → Bool
is-none fat_table = false
is-none difat_table = false
is-none directory_of_file = false
is-none minifat_table = false
is-none mini_stream = false
is-none (one_stream k) = false
is-none is_free = false
is-none no_owner = true

word-none : (w : ℕ) → is-none (if w == free_sector then is_free else no_owner) ≡ true → w ≢ free_sector
unfolding is-none
word-none w e is = true_false (is-none (if w == free_sector then is_free else no_owner)) e (ap (λ (b : Bool). is-none (if b then is_free else no_owner)) (eq-eqb w free_sector is))

word-left : (w : ℕ) → w ≢ free_sector → (if w == free_sector then is_free else no_owner) ≡ no_owner
word-left w ne = ap (λ (b : Bool). if b then is_free else no_owner) (ne_eqb w free_sector ne)

-- no stream is the first to have it
stream-none : (f : ℕ → List ℕ) (i : ℕ) (other : OwnerOf) (xs : List ℕ) → is-none (first_owner f i other xs) ≡ true
    → (is-none other ≡ true) × ((k : ℕ) → Contains xs k → Contains (f k) i → ⊥)
unfolding is-none
stream-none f i other [] e = (e, λ k m c. Contains-nil k m)
stream-none f i other (x ∷ xs) e = go (is_among (f x) i) refl e (λ h. stream-none f i other xs h)
  where
    go : (b : Bool) → is_among (f x) i ≡ b → is-none (if b then one_stream x else first_owner f i other xs) ≡ true
        → (is-none (first_owner f i other xs) ≡ true → (is-none other ≡ true) × ((k : ℕ) → Contains xs k → Contains (f k) i → ⊥))
        → (is-none other ≡ true) × ((k : ℕ) → Contains (x ∷ xs) k → Contains (f k) i → ⊥)
    go true h e next = let f : false ≡ true = e in cc
    go false h e next =
        let n = next e in (
          n.0,
          λ k m c. elim (Contains-cases x xs k m) [
            | inl same ↦ among-not (f x) i h (subst (λ (j : ℕ). Contains (f j) i) (sym same) c)
            | inr rest ↦ n.1 k rest c
          ],
        )

none-first : (f : ℕ → List ℕ) (i : ℕ) (other : OwnerOf) (xs : List ℕ) → ((k : ℕ) → Contains xs k → Contains (f k) i → ⊥) → first_owner f i other xs ≡ other
none-first f i other [] out = refl
none-first f i other (x ∷ xs) out =
    ap (λ (b : Bool). if b then one_stream x else first_owner f i other xs) (not-here (is_among (f x) i) refl)
    ∙ none-first f i other xs (λ k m c. out k (Contains-later k m) c)
  where
    not-here : (b : Bool) → is_among (f x) i ≡ b → b ≡ false
    not-here true h = absurd (out x (Contains-here x xs) (among-Contains (f x) i h))
    not-here false h = refl

    Contains-later : (k : ℕ) → Contains xs k → Contains (x ∷ xs) k
    Contains-later k m = Contains-append_right (x ∷ []) xs k m

-- what the lists of a file have
in-used : (r : Reading) (i : ℕ) → Contains (used_sectors r) i
    → Contains r.fat_sectors i ⊎ (Contains r.difat_sectors i ⊎ (Contains r.directory i ⊎ (Contains r.minifat_sectors i ⊎ (Contains (mini_stream_sectors r) i
    ⊎ ((k : ℕ) × Contains (large_streams r) k × Contains (sectors_of r k) i)))))
in-used r i m =
    let rest5 : List ℕ = flat_map (sectors_of r) (large_streams r) in
    elim (Contains-append_cases (r.fat_sectors ++ r.difat_sectors ++ r.directory ++ r.minifat_sectors ++ mini_stream_sectors r) rest5 i m) [
      | inr s ↦ inr (inr (inr (inr (inr (flat-Contains (sectors_of r) (large_streams r) i s)))))
      | inl m ↦ elim (Contains-append_cases (r.fat_sectors ++ r.difat_sectors ++ r.directory ++ r.minifat_sectors) (mini_stream_sectors r) i m) [
        | inr s ↦ inr (inr (inr (inr (inl s))))
        | inl m ↦ elim (Contains-append_cases (r.fat_sectors ++ r.difat_sectors ++ r.directory) r.minifat_sectors i m) [
          | inr s ↦ inr (inr (inr (inl s)))
          | inl m ↦ elim (Contains-append_cases (r.fat_sectors ++ r.difat_sectors) r.directory i m) [
            | inr s ↦ inr (inr (inl s))
            | inl m ↦ elim (Contains-append_cases r.fat_sectors r.difat_sectors i m) [
              | inr s ↦ inr (inl s)
              | inl s ↦ inl s
            ]
          ]
        ]
      ]
    ]

-- a number has no owner exactly if it is loose
pub none-loose : (t : Table) (r : Reading) (i : ℕ) → i < length (words_of t r) → owner_in t r i ≡ no_owner → IsLoose (words_of t r) (used_in t r) i
unfolding is-none
none-loose Minifat r m lt e =
    let n = stream-none (mini_sectors_of r) m (if slice_index r.minifat m == free_sector then is_free else no_owner) (small_streams r) (ap is-none e) in (
      λ free. word-none (slice_index r.minifat m) n.0 (sym (value-at r.minifat m lt) ∙ free),
      λ used. let f = flat-Contains (mini_sectors_of r) (small_streams r) m used in n.1 f.0 f.1 f.2,
    )
none-loose Fat r i lt e =
    go (is_among r.fat_sectors i) refl (is_among r.difat_sectors i) refl (is_among r.directory i) refl (is_among r.minifat_sectors i) refl (is_among (mini_stream_sectors r) i) refl (ap is-none e)
  where
    go : (a : Bool) → is_among r.fat_sectors i ≡ a → (b : Bool) → is_among r.difat_sectors i ≡ b → (c : Bool) → is_among r.directory i ≡ c
        → (d : Bool) → is_among r.minifat_sectors i ≡ d → (g : Bool) → is_among (mini_stream_sectors r) i ≡ g
        → is-none (if a then fat_table else if b then difat_table else if c then directory_of_file else if d then minifat_table else if g then mini_stream
        else first_owner (sectors_of r) i (if slice_index r.fat i == free_sector then is_free else no_owner) (large_streams r)) ≡ true
        → IsLoose r.fat (used_sectors r) i
    go true ea b eb c ec d ed g eg e = let f : false ≡ true = e in cc
    go false ea true eb c ec d ed g eg e = let f : false ≡ true = e in cc
    go false ea false eb true ec d ed g eg e = let f : false ≡ true = e in cc
    go false ea false eb false ec true ed g eg e = let f : false ≡ true = e in cc
    go false ea false eb false ec false ed true eg e = let f : false ≡ true = e in cc
    go false ea false eb false ec false ed false eg e =
        let n = stream-none (sectors_of r) i (if slice_index r.fat i == free_sector then is_free else no_owner) (large_streams r) e in (
          λ free. word-none (slice_index r.fat i) n.0 (sym (value-at r.fat i lt) ∙ free),
          λ used. elim (in-used r i used) [
            | inl m ↦ among-not r.fat_sectors i ea m
            | inr (inl m) ↦ among-not r.difat_sectors i eb m
            | inr (inr (inl m)) ↦ among-not r.directory i ec m
            | inr (inr (inr (inl m))) ↦ among-not r.minifat_sectors i ed m
            | inr (inr (inr (inr (inl m)))) ↦ among-not (mini_stream_sectors r) i eg m
            | inr (inr (inr (inr (inr s)))) ↦ n.1 s.0 s.1 s.2
          ],
        )

not-in : (list : List ℕ) (i : ℕ) → (Contains list i → ⊥) → is_among list i ≡ false
not-in list i out = go (is_among list i) refl
  where
    go : (b : Bool) → is_among list i ≡ b → b ≡ false
    go true e = absurd (out (among-Contains list i e))
    go false e = refl

into-used : (r : Reading) (i : ℕ) → (Contains (used_sectors r) i → ⊥) → (k : ℕ) → Contains (large_streams r) k → Contains (sectors_of r k) i → ⊥
into-used r i out k m c = out (Contains-append_right (r.fat_sectors ++ r.difat_sectors ++ r.directory ++ r.minifat_sectors ++ mini_stream_sectors r)
    (flat_map (sectors_of r) (large_streams r)) i (into-flat (sectors_of r) (large_streams r) k i m c))

pub loose-none : (t : Table) (r : Reading) (i : ℕ) → i < length (words_of t r) → IsLoose (words_of t r) (used_in t r) i → owner_in t r i ≡ no_owner
loose-none Minifat r m lt l =
    none-first (mini_sectors_of r) m (if slice_index r.minifat m == free_sector then is_free else no_owner) (small_streams r)
    (λ k n c. l.1 (into-flat (mini_sectors_of r) (small_streams r) k m n c))
    ∙ word-left (slice_index r.minifat m) (λ free. l.0 (value-at r.minifat m lt ∙ free))
loose-none Fat r i lt l =
    let fd : List ℕ = r.fat_sectors ++ r.difat_sectors in
    let tables : List ℕ = fd ++ r.directory ++ r.minifat_sectors in
    let all : List ℕ = tables ++ mini_stream_sectors r in
    let streams_have : List ℕ = flat_map (sectors_of r) (large_streams r) in
    let up = λ (m : Contains all i). Contains-append_left all streams_have i m in
    let a = not-in r.fat_sectors i (λ m. l.1 (up (Contains-append_left tables (mini_stream_sectors r) i (Contains-append_left (fd ++ r.directory) r.minifat_sectors i
    (Contains-append_left fd r.directory i (Contains-append_left r.fat_sectors r.difat_sectors i m)))))) in
    let b = not-in r.difat_sectors i (λ m. l.1 (up (Contains-append_left tables (mini_stream_sectors r) i (Contains-append_left (fd ++ r.directory) r.minifat_sectors i
    (Contains-append_left fd r.directory i (Contains-append_right r.fat_sectors r.difat_sectors i m)))))) in
    let c = not-in r.directory i (λ m. l.1 (up (Contains-append_left tables (mini_stream_sectors r) i (Contains-append_left (fd ++ r.directory) r.minifat_sectors i
    (Contains-append_right fd r.directory i m))))) in
    let d = not-in r.minifat_sectors i (λ m. l.1 (up (Contains-append_left tables (mini_stream_sectors r) i (Contains-append_right (fd ++ r.directory) r.minifat_sectors i m)))) in
    let e = not-in (mini_stream_sectors r) i (λ m. l.1 (up (Contains-append_right tables (mini_stream_sectors r) i m))) in
    (λ j. if a j then fat_table else if b j then difat_table else if c j then directory_of_file else if d j then minifat_table else if e j then mini_stream
    else first_owner (sectors_of r) i (if slice_index r.fat i == free_sector then is_free else no_owner) (large_streams r))
    ∙ none-first (sectors_of r) i (if slice_index r.fat i == free_sector then is_free else no_owner) (large_streams r) (into-used r i l.1)
    ∙ word-left (slice_index r.fat i) (λ free. l.0 (value-at r.fat i lt ∙ free))

-- ---- where words lead

ended-below : (n w : ℕ) → IsTrue (is_regular (ended_past_file n w)) → ended_past_file n w < n
ended-below n w e = go (is_regular w) refl (nat_le n w) refl e
  where
    go : (a : Bool) → is_regular w ≡ a → (b : Bool) → nat_le n w ≡ b → IsTrue (is_regular (if a && b then end_of_chain else w)) → (if a && b then end_of_chain else w) < n
    go true ea true eb e = absurd (true_false (is_regular end_of_chain) e refl)
    go true ea false eb e = leb-false n w eb
    go false ea b eb e = absurd (true_false (is_regular w) e ea)

fat-below : (n : ℕ) (list own raw : List ℕ) (i : ℕ) → IsTrue (is_regular (fat_value n list own raw i)) → fat_value n list own raw i < n
fat-below n list own raw i e = go (is_among list i) (is_among own i) e
  where
    go : (a b : Bool) → IsTrue (is_regular (if a then fat_sector else if b then difat_sector else ended_past_file n (slice_index_or raw i free_sector)))
        → (if a then fat_sector else if b then difat_sector else ended_past_file n (slice_index_or raw i free_sector)) < n
    go true b e = absurd (true_false (is_regular fat_sector) e refl)
    go false true e = absurd (true_false (is_regular difat_sector) e refl)
    go false false e = ended-below n (slice_index_or raw i free_sector) e

point-below : (n w : ℕ) → points_below n w ≡ true → IsTrue (is_regular w) → w < n
point-below n w e regular = go (is_regular w) refl e
  where
    go : (a : Bool) → is_regular w ≡ a → not a || nat_lt w n ≡ true → w < n
    go true ea e = ltb-true w n e
    go false ea e = absurd (true_false (is_regular w) regular ea)

pub words-inside : (cases : Cases) (bytes : List ℕ) (r : Reading) → Reads cases bytes r → (t : Table) (i : ℕ) → i < length (words_of t r)
    → IsTrue (is_regular (slice_index (words_of t r) i)) → slice_index (words_of t r) i < length (words_of t r)
words-inside cases bytes r reads Minifat i lt regular =
    point-below (length r.minifat) (slice_index r.minifat i)
    (every_member (points_below (length r.minifat)) r.minifat reads.minifat.in_range (slice_index r.minifat i) (Contains-get_or r.minifat i 0 lt)) regular
words-inside cases bytes r reads Fat i lt regular =
    let n : ℕ = sector_count r.header.version bytes in
    let count = (known-of cases bytes r reads).count in
    let is = fat-value-at cases bytes r reads i lt in
    let below = fat-below n r.fat_sectors r.difat_sectors (raw_fat r.header.version bytes r.fat_sectors) i (subst (λ (w : ℕ). IsTrue (is_regular w)) is regular) in
    omega (arith, is, below, count)

-- ---- one number

-- a number that is free or has an owner is not loose
not-none : (o : OwnerOf) → is-none o ≡ false → o ≢ no_owner
unfolding is-none
not-none o e is = true_false (is-none o) (ap is-none is) e

pub owner-no : (t : Table) (r : Reading) (i : ℕ) → (i < length (words_of t r) → owner_in t r i ≢ no_owner) → IsLoose (words_of t r) (used_in t r) i → ⊥
owner-no t r i used l = let lt = value-below (words_of t r) i l.0 in used lt (loose-none t r i lt l)
