-- How far chains reach, one number more.
use Rattle.std.proofs.Common.{◌≡◌, ◌≢◌, ◌<◌, ◌≤◌, ◌+◌, ◌-◌, ◌*◌, ◌/◌, min, inl, inr, ℕ, zero, suc, List, [], ◌∷◌, ◌++◌, Bool, true, false, length, take, drop, refl, sym, ◌∙◌, ap, subst, arith, length-append, length-take, length-drop, drop-cons, replicate, set}
use Rattle.std.specs.Prelude.{Contains, IsTrue, nat_eq, nat_le, nat_lt, slice_index, slice_index_or, if◌then◌else◌, Option, Some, None, is_some, option_and_then}
use Rattle.std.specs.List.{IsDistinct}
use Rattle.std.specs.Option.{option_map_or}
use Rattle.std.proofs.lemmas.Bool.{cases_lt, cases_eq, le-leb, lt-leb}
use Rattle.std.proofs.lemmas.List.{drop_all, get_or-set_same, get_or-set_other, length-set, get_or-replicate, get_or_past, length-replicate, get_or_default}
use Rattle.cfb_format.specs.declared.version.Version.{Version}
use Rattle.cfb_format.specs.declared.version.Version.TheVariants.{V3, V4}
use Rattle.cfb_format.specs.Bytes.{byte_at, end_of_chain}
use Rattle.cfb_format.specs.Chain.{Follows, chain_from}
use Rattle.cfb_format.specs.Content.{content_chain, is_large, mini_chain, mini_stream_chain, placed_from, place_in_chain, place_in_mini_chain, place_in_stream, readable, sector_chain}
use Rattle.cfb_format.specs.DirectoryEntry.{Entry}
use Rattle.cfb_format.specs.Names.{Cases}
use Rattle.cfb_format.specs.Reading.{Reading, Reads}
use Rattle.cfb_format.specs.Siblings.{entry_at}
use Rattle.cfb_format.specs.Soundness.{mini_stream_sectors}
use Rattle.cfb_format.proofs.Members.{Contains-here, Contains-nil, distinct-apart, distinct-right}
use Rattle.cfb_format.proofs.Walks.{follows-next, regular-le}
use Rattle.cfb_soundness.specs.Layout.{pieces_along}
use Rattle.cfb_soundness.specs.Marks.{AreFresh, Marked, mark_at}
use Rattle.cfb_soundness.proofs.MarkLemmas.{true_false}
use Rattle.cfb_flaws.specs.declared.known.Known.{Known}
use Rattle.cfb_flaws.specs.declared.owner.Table.{Table}
use Rattle.cfb_flaws.specs.declared.owner.Table.TheVariants.{Fat, Minifat}
use Rattle.cfb_flaws.specs.Claims.{IsPath, LiesIn, Stops, words_in, words_of}
use Rattle.cfb_flaws.specs.Reach.{Filled, KnowsReach, capped, len_in, reach_along, reach_of, start_in_file}
use Rattle.cfb_flaws.specs.Telling.{KnowsFile}
use Rattle.cfb_flaws.proofs.Knowing.{chain-is}
use Rattle.cfb_flaws.proofs.Lying.{lies-large, lies-small, small-chain}
use Rattle.cfb_flaws.proofs.Paths.{no-way-round, path-from, path-joins, path-splits}
use Rattle.cfb_flaws.proofs.Reaching.{large-read, small-read}
use Rattle.cfb_flaws.proofs.Streaming.{some-from}

-- ---- one piece more

pub next-cut : (len : ℕ) (start : ℕ → ℕ) (size i there : ℕ) (rest : List ℕ) → there ≡ min len (size - start i) → there < len → len ≤ 4096
    → there ≡ capped (reach_along len start size (i ∷ rest))
next-cut len start size i there rest is lt few =
    let cut : nat_le (start i + len) size ≡ false = lt-leb (start i + len) size (omega (arith, is, lt)) in
    let all : reach_along len start size (i ∷ rest) ≡ min len (size - start i) + 0 =
    ap (λ (b : Bool). min len (size - start i) + (if b then reach_along len start size rest else 0)) cut in
    omega (arith, all, is, lt, few)

pub next-whole : (len : ℕ) (start : ℕ → ℕ) (size i there behind sum : ℕ) (rest : List ℕ) → there ≡ min len (size - start i) → len ≤ there → 0 < len
    → behind ≡ capped (reach_along len start size rest) → sum ≡ min (behind + there) 0xFFFF_FFFF_FFFF_FFFF
    → sum ≡ capped (reach_along len start size (i ∷ rest))
next-whole len start size i there behind sum rest is le pos was now =
    let whole : nat_le (start i + len) size ≡ true = le-leb (start i + len) size (omega (arith, is, le, pos)) in
    let all : reach_along len start size (i ∷ rest) ≡ min len (size - start i) + reach_along len start size rest =
    ap (λ (b : Bool). min len (size - start i) + (if b then reach_along len start size rest else 0)) whole in
    omega (arith, all, is, le, was, now)

pub some-len : (v : Version) (t : Table) → 0 < len_in v t
some-len V3 Fat = omega arith
some-len V4 Fat = omega arith
some-len v Minifat = omega arith

pub few-len : (v : Version) (t : Table) → len_in v t ≤ 4096
few-len V3 Fat = omega arith
few-len V4 Fat = omega arith
few-len v Minifat = omega arith

-- ---- what a path leaves

distinct-index : (xs : List ℕ) (j k : ℕ) → IsDistinct nat_eq xs → j < k → k < length xs → slice_index xs j ≢ slice_index xs k
distinct-index [] j k d lt below e = omega (arith, below)
distinct-index (x ∷ xs) zero zero d lt below e = omega (arith, lt)
distinct-index (x ∷ xs) zero (suc k) d lt below e =
    distinct-apart (x ∷ []) xs d x (Contains-here x []) (k, omega (arith, below), get_or_default xs k x 0 (omega (arith, below)) ∙ sym e)
distinct-index (x ∷ xs) (suc j) zero d lt below e = omega (arith, lt)
distinct-index (x ∷ xs) (suc j) (suc k) d lt below e = distinct-index xs j k (distinct-right (x ∷ []) xs d) (omega (arith, lt)) (omega (arith, below)) e

-- the numbers from k on got theirs
pub record FilledFrom {A : Type 0} (known : Known A) (t : Table) (old path : List ℕ) (behind k sum : ℕ) (new : List ℕ) : Type 0 where
  pub most : k ≤ length path
  pub len : length new ≡ length old
  pub first : (rest : List ℕ) → behind ≡ capped (reach_of known t rest) → sum ≡ capped (reach_of known t (drop k path ++ rest))
  pub filled : (rest : List ℕ) → behind ≡ capped (reach_of known t rest) → IsDistinct nat_eq path → (j : ℕ) → k ≤ j → j < length path
      → slice_index_or new (slice_index path j) 0 ≡ capped (reach_of known t (drop j path ++ rest))
  pub others : (i : ℕ) → (Contains path i → ⊥) → slice_index_or new i 0 ≡ slice_index_or old i 0

pub filled-none : {A : Type 0} (known : Known A) (t : Table) (old path : List ℕ) (behind : ℕ) → FilledFrom known t old path behind (length path) behind old
filled-none known t old path behind = record {
  most = omega arith;
  len = refl;
  first = λ rest is.
      let none : drop (length path) path ≡ [] = drop_all (length path) path (omega arith) in
      is ∙ ap (λ (z : List ℕ). capped (reach_of known t (z ++ rest))) (sym none);
  filled = λ rest is d j low high. absurd (omega (arith, low, high));
  others = λ i out. refl;
}

module _ {A : Type 0} (known : Known A) (t : Table) (old path : List ℕ) (behind k sum sum' : ℕ) (new : List ℕ) (some : 0 < k) (f : FilledFrom known t old path behind k sum new)
    (more : (rest : List ℕ) → sum ≡ capped (reach_of known t rest) → sum' ≡ capped (reach_of known t (slice_index path (k - 1) ∷ rest)))
    (below : slice_index path (k - 1) < length new) where
  from-one : drop (k - 1) path ≡ slice_index path (k - 1) ∷ drop k path
  from-one =
      let most = f.most in
      let back : suc (k - 1) ≡ k = omega (arith, some) in
      drop-cons path (k - 1) 0 (omega (arith, most, some)) ∙ ap (λ (n : ℕ). slice_index path (k - 1) ∷ drop n path) back

  now-first : (rest : List ℕ) → behind ≡ capped (reach_of known t rest) → sum' ≡ capped (reach_of known t (drop (k - 1) path ++ rest))
  now-first rest is = more (drop k path ++ rest) (f.first rest is) ∙ ap (λ (z : List ℕ). capped (reach_of known t (z ++ rest))) (sym from-one)

  pub filled-more : FilledFrom known t old path behind (k - 1) sum' (set new (slice_index path (k - 1)) sum')
  filled-more = record {
    most = let most = f.most in omega (arith, most, some);
    len = length-set new (slice_index path (k - 1)) sum' ∙ f.len;
    first = now-first;
    filled = λ rest is d j low high. elim (cases_eq j (k - 1)) [
      | inl at ↦
          ap (λ (n : ℕ). slice_index_or (set new (slice_index path (k - 1)) sum') (slice_index path n) 0) at
          ∙ get_or-set_same new (slice_index path (k - 1)) sum' 0 below ∙ now-first rest is ∙ ap (λ (n : ℕ). capped (reach_of known t (drop n path ++ rest))) (sym at)
      | inr ne ↦
          let apart : slice_index path j ≢ slice_index path (k - 1) = λ e. distinct-index path (k - 1) j d (omega (arith, low, ne)) high (sym e) in
          get_or-set_other new (slice_index path (k - 1)) (slice_index path j) sum' 0 apart ∙ f.filled rest is d j (omega (arith, low, ne, some)) high
    ];
    others = λ i out.
        let most = f.most in
        let in' : k - 1 < length path = omega (arith, most, some) in
        let apart : i ≢ slice_index path (k - 1) = λ e. out (k - 1, in', get_or_default path (k - 1) i 0 in' ∙ sym e) in
        get_or-set_other new (slice_index path (k - 1)) i sum' 0 apart ∙ f.others i out;
  }

pub filled-all : {A : Type 0} (known : Known A) (t : Table) (old path : List ℕ) (behind k sum : ℕ) (new rest : List ℕ) → k ≤ 0 → FilledFrom known t old path behind k sum new
    → behind ≡ capped (reach_of known t rest) → IsDistinct nat_eq path → Filled known t old path rest new
filled-all known t old path behind k sum new rest none f is d = record {
  filled = λ j lt. f.filled rest is d j (omega (arith, none)) lt;
  others = f.others;
}

-- ---- walks

path-drop : (table : List ℕ) (s : ℕ) (path : List ℕ) (next j : ℕ) → IsPath table s path next → j < length path → IsPath table (slice_index path j) (drop j path) next
path-drop table s [] next j p lt = absurd (omega (arith, lt))
path-drop table s (x ∷ path) next zero p lt = subst (λ (k : ℕ). IsPath table k (x ∷ path) next) p.0 p
path-drop table s (x ∷ path) next (suc j) p lt = path-drop table (slice_index table x) path next j p.3 (omega (arith, lt))

no-rest : (table : List ℕ) (next : ℕ) (rest : List ℕ) → next ≡ end_of_chain → Follows table next rest → rest ≡ []
no-rest table next [] e f = refl
no-rest table next (x ∷ rest) e f = absurd (f.1 e)

module _ {A : Type 0} (known : Known A) (t : Table) (seen seen' : List Bool) (reach : List ℕ) (start : ℕ) (path : List ℕ) (next : ℕ)
    (is_path : IsPath (words_in t known.parts.now) start path next) (fresh : AreFresh seen path) (marked : Marked seen path seen')
    (stops : Stops (words_in t known.parts.now) seen' next) (knows : KnowsReach known t seen reach) (list : List ℕ) (f : Follows (words_in t known.parts.now) start list) where
  pub rest-of : (rest : List ℕ) × (list ≡ path ++ rest) × Follows (words_in t known.parts.now) next rest
  rest-of = path-splits (words_in t known.parts.now) start path next list is_path f

  -- what is known behind the path
  pub known-behind : (behind : ℕ) → (next ≡ end_of_chain → behind ≡ 0) → (next ≢ end_of_chain → behind ≡ slice_index_or reach next 0) → behind ≡ capped (reach_of known t rest-of.0)
  unfolding rest-of
  known-behind behind at_end there = elim (cases_eq next end_of_chain) [
    | inl ended ↦
        let none = no-rest (words_in t known.parts.now) next rest-of.0 ended rest-of.2 in
        let zero_there : reach_of known t rest-of.0 ≡ 0 = ap (reach_of known t) none in
        let b = at_end ended in
        omega (arith, b, zero_there)
    | inr ne ↦
        let n = follows-next (words_in t known.parts.now) next rest-of.0 ne rest-of.2 in
        elim (marked.only next (stops ne (regular-le next n.4) n.2)) [
          | inl was ↦ there ne ∙ knows next was rest-of.0 rest-of.2
          | inr m ↦
              let p = path-from (words_in t known.parts.now) start path next next is_path m in
              absurd (no-way-round (words_in t known.parts.now) next p.0 rest-of.0 p.1 p.3 ne rest-of.2)
        ]
  ]

  -- and of each number once the path is filled
  pub known-filled : (new : List ℕ) → Filled known t reach path rest-of.0 new → KnowsReach known t seen' new
  unfolding rest-of
  known-filled new filled i e list' f' = elim (marked.only i e) [
    | inl was ↦ filled.others i (λ m. fresh.unmarked i m was) ∙ knows i was list' f'
    | inr (j, lt, is) ↦
        let at : slice_index path j ≡ i = get_or_default path j 0 i lt ∙ is in
        let joined : Follows (words_in t known.parts.now) (slice_index path j) (drop j path ++ rest-of.0) =
        path-joins (words_in t known.parts.now) (slice_index path j) (drop j path) next rest-of.0 (path-drop (words_in t known.parts.now) start path next j is_path lt) rest-of.2 in
        let here : Follows (words_in t known.parts.now) i (drop j path ++ rest-of.0) = subst (λ (k : ℕ). Follows (words_in t known.parts.now) k (drop j path ++ rest-of.0)) at joined in
        let same : drop j path ++ rest-of.0 ≡ list' =
        sym (chain-is (words_in t known.parts.now) i (drop j path ++ rest-of.0) here) ∙ chain-is (words_in t known.parts.now) i list' f' in
        ap (λ (k : ℕ). slice_index_or new k 0) (sym at) ∙ filled.filled j lt ∙ ap (λ (z : List ℕ). capped (reach_of known t z)) same
  ]

-- nothing is known at first
pub knows-none : {A : Type 0} (known : Known A) (t : Table) (n : ℕ) (seen : List Bool) (reach : List ℕ) → seen ≡ replicate n false → KnowsReach known t seen reach
knows-none known t n seen reach is i e = absurd (true_false (mark_at seen i) e (ap (λ (z : List Bool). mark_at z i) is ∙ none))
  where
    none : mark_at (replicate n false) i ≡ false
    none = elim (cases_lt i n) [
      | inl lt ↦ get_or-replicate n i false false lt
      | inr ge ↦ get_or_past (replicate n false) i false (let len = length-replicate n false in omega (arith, ge, len))
    ]

-- ---- what can be read

along-len : (len : ℕ) (start : ℕ → ℕ) (bytes list : List ℕ) → length (pieces_along len start bytes list) ≡ reach_along len start (length bytes) list
along-len len start bytes [] = refl
along-len len start bytes (i ∷ list) = go (nat_le (start i + len) (length bytes)) (along-len len start bytes list)
  where
    piece : length (take len (drop (start i) bytes)) ≡ min len (length bytes - start i)
    piece = length-take len (drop (start i) bytes) ∙ ap (min len) (length-drop (start i) bytes)

    go : (b : Bool) → length (pieces_along len start bytes list) ≡ reach_along len start (length bytes) list
        → length (take len (drop (start i) bytes) ++ (if b then pieces_along len start bytes list else []))
        ≡ min len (length bytes - start i) + (if b then reach_along len start (length bytes) list else 0)
    go true next = length-append (take len (drop (start i) bytes)) (pieces_along len start bytes list) ∙ (λ j. piece j + next j)
    go false next = length-append (take len (drop (start i) bytes)) [] ∙ ap (λ (n : ℕ). n + 0) piece

module _ {A : Type 0} (known : Known A) (bytes : List ℕ) (r : Reading) (knows : KnowsFile known bytes r) where
  reach-is : (t : Table) (list : List ℕ) → reach_along (len_in r.header.version t) (start_in_file r.header.version (length bytes) (mini_stream_sectors r) t) (length bytes) list ≡ reach_of known t list
  reach-is t list = λ i. reach_along (len_in (sym knows.parts.version i) t) (start_in_file (sym knows.parts.version i) (sym knows.parts.len i) (sym knows.root i) t) (sym knows.parts.len i) list

  pub read-reach : (t : Table) (e : Entry) (list : List ℕ) → LiesIn t e → Follows (words_of t r) e.start_sector list → length (readable bytes r e) ≡ min e.stream_len (reach_of known t list)
  read-reach Fat e list lies f =
      large-read bytes r e list (lies-large e lies) (some-from r.fat e.start_sector list f)
      ∙ ap (min e.stream_len) (along-len (len_in r.header.version Fat) (start_in_file r.header.version (length bytes) (mini_stream_sectors r) Fat) bytes list ∙ reach-is Fat list)
  read-reach Minifat e list lies f =
      small-read bytes r e list (lies-small e lies) (small-chain r e lies.some ∙ some-from r.minifat e.start_sector list f)
      ∙ ap (min e.stream_len) (along-len (len_in r.header.version Minifat) (start_in_file r.header.version (length bytes) (mini_stream_sectors r) Minifat) bytes list ∙ reach-is Minifat list)

-- without a chain nothing can be read
none-some : (at : ℕ) → Some at ≡ None → ⊥
none-some at e = let f : true ≡ false = ap is_some e in cc

nothing-placed : (bytes : List ℕ) (place_of : ℕ → Option ℕ) → ((k : ℕ) → place_of k ≡ None) → (n : ℕ) → placed_from bytes place_of 0 n ≡ []
unfolding placed_from
nothing-placed bytes place_of none zero = refl
nothing-placed bytes place_of none (suc n) = go (place_of 0) (none 0)
  where
    go : (o : Option ℕ) → o ≡ None → option_map_or (λ at. byte_at bytes at ∷ placed_from bytes place_of (0 + 1) n) o [] ≡ []
    go None e = refl
    go (Some at) e = absurd (none-some at e)

pub none-read : (bytes : List ℕ) (r : Reading) (e : Entry) → content_chain r e ≡ None → 0 ≡ length (readable bytes r e)
none-read bytes r e none = sym (ap length (nothing-placed bytes (place_in_stream bytes r e) (λ k. go k (is_large e) none) e.stream_len))
  where
    go : (k : ℕ) (b : Bool) → (if b then sector_chain r e else mini_chain r e) ≡ None
        → (if b then option_and_then (λ list. place_in_chain r.header.version bytes list k) (sector_chain r e)
        else option_and_then (λ list. place_in_mini_chain bytes r list k) (mini_chain r e)) ≡ None
    go k true is = ap (option_and_then (λ list. place_in_chain r.header.version bytes list k)) is
    go k false is = ap (option_and_then (λ list. place_in_mini_chain bytes r list k)) is

-- the least of both, where a word holds the one
pub least : (there reach len read : ℕ) → there ≡ capped reach → read ≡ min len reach → len ≤ 0xFFFF_FFFF_FFFF_FFFF → min there len ≡ read
least there reach len read is e few = omega (arith, is, e, few)
