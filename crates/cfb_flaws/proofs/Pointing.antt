-- Sectors that go on past the last one.
use Rattle.std.proofs.Common.{◌≡◌, ◌<◌, ◌≤◌, ◌+◌, ◌⊎◌, inl, inr, ℕ, List, [], ◌∷◌, ◌++◌, Bool, true, false, length, refl, sym, ◌∙◌, ap, subst, arith, length-take}
use Rattle.std.specs.Prelude.{Contains, IsTrue, slice_index, if◌then◌else◌, ◌==◌, ◌||◌, not}
use Rattle.std.proofs.lemmas.Bool.{cases_lt}
use Rattle.std.proofs.lemmas.List.Elements.{All-push, Contains-append_left, Contains-append_right}
use Rattle.std.proofs.lemmas.List.Folds.{list_any-append}
use Rattle.cfb_format.specs.Bytes.{free_sector, is_regular, max_regular_sector, sector_count}
use Rattle.cfb_format.specs.Fat.{fat_words, is_among}
use Rattle.cfb_format.specs.Names.{Cases}
use Rattle.cfb_format.specs.Reading.{Reading, Reads}
use Rattle.cfb_format.specs.Soundness.{Owner as OwnerOf, fat_table, difat_table, directory_of_file, minifat_table, mini_stream, one_stream, is_free, no_owner, first_owner, owner, large_streams, sectors_of, mini_stream_sectors, PointsIntoFile}
use Rattle.cfb_format.proofs.Walks.{le-regular, regular-le}
use Rattle.cfb_soundness.proofs.Decision.{known as known-of}
use Rattle.cfb_flaws.specs.declared.flaw.Flaw.{Flaw}
use Rattle.cfb_flaws.specs.declared.flaw.Flaw.TheVariants.{PastFile}
use Rattle.cfb_flaws.specs.declared.known.Known.{Known}
use Rattle.cfb_flaws.specs.declared.owner.Owner.{Owner}
use Rattle.cfb_flaws.specs.declared.owner.Owner.TheVariants.{Fat as FatOwner, Difat, Directory, Minifat as MinifatOwner, MiniStream, Stream, Free, Unused}
use Rattle.cfb_flaws.specs.declared.owner.Table.TheVariants.{Fat}
use Rattle.cfb_flaws.specs.Each.{AnswersEach, AnswersMost}
use Rattle.cfb_flaws.specs.Flaws.{Clause, Holds, NoneOn, PointsPast, on_chains, on_covers, on_loose, on_mini_loose, on_mini_room, on_mini_sectors, on_mini_stream, on_sectors, on_whole, raw_of}
use Rattle.cfb_flaws.specs.Owners.{is_of_tables, meant, owner_at}
use Rattle.cfb_flaws.specs.Telling.{KnowsFile, ToldPast, owners_of}
use Rattle.cfb_flaws.proofs.Tellings.{none-push}
use Rattle.cfb_flaws.proofs.Truths.{owner-known}

-- ---- sectors of the FAT and the DIFAT

-- what the format names the owner of a sector that one of both lists
of-tables : OwnerOf → Bool
of-tables fat_table = true
of-tables difat_table = true
of-tables directory_of_file = false
of-tables minifat_table = false
of-tables mini_stream = false
of-tables (one_stream k) = false
of-tables is_free = false
of-tables no_owner = false

meant-tables : (o : Owner) → of-tables (meant o) ≡ is_of_tables o
unfolding of-tables
meant-tables FatOwner = refl
meant-tables Difat = refl
meant-tables Directory = refl
meant-tables MinifatOwner = refl
meant-tables MiniStream = refl
meant-tables (Stream k) = refl
meant-tables Free = refl
meant-tables Unused = refl

first-none : (f : ℕ → List ℕ) (i : ℕ) (other : OwnerOf) → of-tables other ≡ false → (xs : List ℕ) → of-tables (first_owner f i other xs) ≡ false
unfolding of-tables
first-none f i other none [] = none
first-none f i other none (x ∷ xs) = go (is_among (f x) i) (first-none f i other none xs)
  where
    go : (b : Bool) → of-tables (first_owner f i other xs) ≡ false → of-tables (if b then one_stream x else first_owner f i other xs) ≡ false
    go true h = refl
    go false h = h

free-none : (w : ℕ) → of-tables (if w == free_sector then is_free else no_owner) ≡ false
unfolding of-tables
free-none w = go (w == free_sector)
  where
    go : (b : Bool) → of-tables (if b then is_free else no_owner) ≡ false
    go true = refl
    go false = refl

owner-tables : (r : Reading) (i : ℕ) → of-tables (owner r i) ≡ is_among (r.fat_sectors ++ r.difat_sectors) i
unfolding of-tables
owner-tables r i =
    go (is_among r.fat_sectors i) (is_among r.difat_sectors i) (is_among r.directory i) (is_among r.minifat_sectors i) (is_among (mini_stream_sectors r) i)
    ∙ sym (list_any-append (λ k. k == i) r.fat_sectors r.difat_sectors)
  where
    go : (a b c d g : Bool)
        → of-tables (if a then fat_table else if b then difat_table else if c then directory_of_file else if d then minifat_table else if g then mini_stream
        else first_owner (sectors_of r) i (if slice_index r.fat i == free_sector then is_free else no_owner) (large_streams r)) ≡ (a || b)
    go true b c d g = refl
    go false true c d g = refl
    go false false true d g = refl
    go false false false true g = refl
    go false false false false true = refl
    go false false false false false =
        first-none (sectors_of r) i (if slice_index r.fat i == free_sector then is_free else no_owner) (free-none (slice_index r.fat i)) (large_streams r)

pub not-is : (b : Bool) → IsTrue (not b) → b ≡ false
not-is true e = let f : false ≡ true = e in cc
not-is false e = refl

pub is-not : (b : Bool) → b ≡ false → IsTrue (not b)
is-not b e = ap not e

-- ---- one sector

module _ {A : Type 0} (known : Known A) (cases : Cases) (bytes : List ℕ) (r : Reading) (reads : Reads cases bytes r) (knows : KnowsFile known bytes r)
    (i next : ℕ) (lt : i < length (raw_of bytes r)) (word : slice_index (raw_of bytes r) i ≡ next) where
  count-is : length known.parts.now.fat.now ≡ sector_count r.header.version bytes
  count-is = ap length knows.parts.fat ∙ (known-of cases bytes r reads).count

  inside : i < length (owners_of Fat known)
  inside =
      let few = length-take (sector_count r.header.version bytes) (fat_words r.header.version bytes r.fat_sectors) in
      let c = (known-of cases bytes r reads).count in
      let l = knows.sectors.len in
      omega (arith, lt, few, c, l)

  listed-is : is_of_tables (owner_at (owners_of Fat known) i) ≡ is_among (r.fat_sectors ++ r.difat_sectors) i
  listed-is = sym (meant-tables (owner_at (owners_of Fat known) i)) ∙ ap of-tables (owner-known known bytes r knows Fat i inside) ∙ owner-tables r i

  -- it goes on past the last one, and no table lists it
  pub points : next ≤ max_regular_sector → length known.parts.now.fat.now ≤ next → is_of_tables (owner_at (owners_of Fat known) i) ≡ false → PointsPast bytes r i next
  points le past none = record {
    below = lt;
    unlisted = sym listed-is ∙ none;
    word = word;
    regular = le-regular next le;
    past = let c = count-is in omega (arith, past, c);
  }

  -- it is a mark, or a sector of the file
  pub points-not : (max_regular_sector < next) ⊎ (next < length known.parts.now.fat.now) → PointsPast bytes r i next → ⊥
  points-not (inl mark) p = let le = regular-le next p.regular in omega (arith, le, mark)
  points-not (inr below) p = let c = count-is in omega (arith, below, c, p.past)

  pub unlisted-is : PointsPast bytes r i next → is_of_tables (owner_at (owners_of Fat known) i) ≡ false
  unlisted-is p = listed-is ∙ p.unlisted

-- ---- what is told

none-there : (f : Flaw) → Contains [] f → ⊥
none-there f (k, lt, is) = omega arith

module _ (bytes : List ℕ) (r : Reading) where
  pub past-none : (n : ℕ) (xs : List Flaw) → ToldPast bytes r n n xs xs
  past-none n xs = record {
    truth = λ t. t;
    kept = λ d none. none;
    more = λ f m. m;
    told = λ i next low high p. absurd (omega (arith, low, high));
  }

  -- the sector does not go on past the last one
  pub past-not : (n next : ℕ) (xs : List Flaw) → slice_index (raw_of bytes r) n ≡ next → (PointsPast bytes r n next → ⊥) → ToldPast bytes r n (n + 1) xs xs
  past-not n next xs word out = record {
    truth = λ t. t;
    kept = λ d none. none;
    more = λ f m. m;
    told = λ i to low high p.
        let same : i ≡ n = omega (arith, low, high) in
        absurd (out (this i to same p));
  }
    where
      this : (i to : ℕ) → i ≡ n → PointsPast bytes r i to → PointsPast bytes r n next
      this i to same p =
          let leads : to ≡ next = sym p.word ∙ ap (slice_index (raw_of bytes r)) same ∙ word in
          subst (λ (k : ℕ × ℕ). PointsPast bytes r k.0 k.1) (λ j. (same j, leads j)) p

  -- it does
  pub past-one : (n next : ℕ) (xs : List Flaw) → PointsPast bytes r n next → ToldPast bytes r n (n + 1) xs (xs ++ PastFile n next ∷ [])
  past-one n next xs one = record {
    truth = λ t. All-push (Holds bytes r) xs (PastFile n next) t one;
    kept = λ d none. (none-push d xs (PastFile n next) none).0;
    more = λ f m. Contains-append_left xs (PastFile n next ∷ []) f m;
    told = λ i to low high p.
        let same : i ≡ n = omega (arith, low, high) in
        let leads : to ≡ next = sym p.word ∙ ap (slice_index (raw_of bytes r)) same ∙ one.word in
        subst (λ (k : ℕ × ℕ). Contains (xs ++ PastFile n next ∷ []) (PastFile k.0 k.1)) (λ j. (sym same j, sym leads j))
        (Contains-append_right xs (PastFile n next ∷ []) (PastFile n next) (0, omega arith, refl));
  }

  pub past-then : (a b c : ℕ) (xs ys zs : List Flaw) → ToldPast bytes r a b xs ys → ToldPast bytes r b c ys zs → ToldPast bytes r a c xs zs
  past-then a b c xs ys zs t u = record {
    truth = λ h. u.truth (t.truth h);
    kept = λ d n. t.kept d (u.kept d n);
    more = λ f m. u.more f (t.more f m);
    told = λ i next low high p. elim (cases_lt i b) [
      | inl less ↦ u.more (PastFile i next) (t.told i next low less p)
      | inr ge ↦ u.told i next ge high p
    ];
  }

  pub past-less : (a b c : ℕ) (xs ys : List Flaw) → c ≤ b → ToldPast bytes r a b xs ys → ToldPast bytes r a c xs ys
  past-less a b c xs ys le t = record {
    truth = t.truth;
    kept = t.kept;
    more = t.more;
    told = λ i next low high p. t.told i next low (omega (arith, high, le)) p;
  }

  -- what the other clauses have stays, and all sectors are told
  pub past-each : (xs ys : List Flaw) → AnswersMost bytes r xs → ToldPast bytes r 0 (length (raw_of bytes r)) xs ys → AnswersEach bytes r ys
  past-each xs ys m t = record {
    most = record {
      covers = λ n. m.covers (t.kept on_covers n);
      mini_stream = λ n. m.mini_stream (t.kept on_mini_stream n);
      chains = λ n. m.chains (t.kept on_chains n);
      sectors = λ n. m.sectors (t.kept on_sectors n);
      mini_sectors = λ n. m.mini_sectors (t.kept on_mini_sectors n);
      mini_room = λ n. m.mini_room (t.kept on_mini_room n);
      loose = λ n. m.loose (t.kept on_loose n);
      mini_loose = λ n. m.mini_loose (t.kept on_mini_loose n);
      whole = λ n. m.whole (t.kept on_whole n);
    };
    pointers = λ i next p. t.told i next (omega arith) p.below p;
  }

  -- in a sound file none does
  pub into-none : PointsIntoFile bytes r → (i next : ℕ) → PointsPast bytes r i next → ⊥
  into-none into i next p =
      let here = into i p.below p.unlisted (subst (λ (k : ℕ). IsTrue (is_regular k)) (sym p.word) p.regular) in
      omega (arith, here, p.word, p.past)

  -- and where none is told, none does
  pub none-into : AnswersEach bytes r [] → PointsIntoFile bytes r
  none-into e i lt unlisted regular = elim (cases_lt (slice_index (raw_of bytes r) i) (sector_count r.header.version bytes)) [
    | inl less ↦ less
    | inr ge ↦ absurd (none-there (PastFile i (slice_index (raw_of bytes r) i))
        (e.pointers i (slice_index (raw_of bytes r) i) record { below = lt; unlisted = unlisted; word = refl; regular = regular; past = ge }))
  ]
