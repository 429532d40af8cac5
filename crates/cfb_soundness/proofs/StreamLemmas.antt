-- What a stream lies in, by its chain.
use Rattle.std.proofs.Common.{◌≡◌, ◌≢◌, ℕ, ◌*◌, ◌<◌, ◌≤◌, ◌↔◌, inl, inr, min, Bool, true, false, List, [], ◌∷◌, ◌++◌, length, refl, sym, ◌∙◌, ap, subst, arith, length-take, append_assoc, ne_eqb, replicate}
use Rattle.std.proofs.lemmas.List.{append-nil, get_or_past, get_or-map, length-map, length-replicate}
use Rattle.std.specs.Prelude.{Contains, nat_eq, Option, Some, None, IsSome, unwrap_or, flat_map, map, slice_index_or, if◌then◌else◌, ◌==◌}
use Rattle.std.specs.List.{IsDistinct}
use Rattle.std.proofs.lemmas.List.Elements.{Contains-append_right, Contains-append_cases}
use Rattle.cfb_format.specs.Bytes.{sector_len, sector_start}
use Rattle.cfb_format.specs.Chain.{IsChain, chain_from}
use Rattle.cfb_format.specs.Content.{is_large, sector_chain, mini_chain, content_chain, mini_stream_chain, mini_sector_len, readable, placed_from, place_in_stream}
use Rattle.cfb_format.specs.DirectoryEntry.{Entry, unallocated_entry}
use Rattle.cfb_codecs.specs.declared.direntry.DirEntry.{DirEntry}
use Rattle.cfb_codecs.specs.EntryModel.{entry_of}
use Rattle.cfb_format.specs.Reading.{Reading}
use Rattle.cfb_format.specs.Siblings.{entry_at}
use Rattle.cfb_format.proofs.Chains.{chain_from-IsChain}
use Rattle.cfb_soundness.specs.Layout.{LiesInPieces, pieces_along}
use Rattle.cfb_soundness.specs.Marks.{AreFresh, Marked, HoldsMarks}
use Rattle.cfb_soundness.specs.Places.{mini_start}
use Rattle.cfb_soundness.specs.Streams.{own_sectors, own_mini_sectors, StreamFits, StreamsFit}
use Rattle.cfb_soundness.proofs.Layouts.{large-lies, small-lies}
use Rattle.cfb_soundness.proofs.MarkLemmas.{fresh-none, marked-none, fresh-from, holds-more}
use Rattle.cfb_soundness.proofs.PiecesAlong.{read-pieces}
use Rattle.cfb_format.proofs.Members.{Contains-nil, Contains-one, Contains-here, distinct-left, distinct-join}
use Rattle.cfb_format.proofs.Walks.{follows-member}

-- a stream is whole exactly if its pieces are long enough
pub whole-along : (bytes : List ℕ) (r : Reading) (e : Entry) (len : ℕ) (start : ℕ → ℕ) (list : List ℕ) → LiesInPieces r e len start list
    → (e.stream_len ≤ length (pieces_along len start bytes list)) ↔ (length (readable bytes r e) ≡ e.stream_len)
whole-along bytes r e len start list l =
    let is : length (readable bytes r e) ≡ min e.stream_len (length (pieces_along len start bytes list)) =
    ap length (read-pieces bytes r e len start list l) ∙ length-take e.stream_len (pieces_along len start bytes list) in
    ((λ h. omega (arith, is, h)), λ h. omega (arith, is, h))

pub some-is : {A : Type 0} (o : Option A) → IsSome o → (x : A) × (o ≡ Some x)
some-is None s = let f : false ≡ true = s in cc
some-is (Some x) s = (x, refl)

-- ---- a stream in sectors

module _ (bytes : List ℕ) (r : Reading) (e : Entry) (marks mini_marks : List Bool) (large : is_large e ≡ true) where
  pub large-mini : own_mini_sectors r e ≡ []
  large-mini = ap (λ (b : Bool). if b then [] else unwrap_or (mini_chain r e) []) large

  large-sectors : own_sectors r e ≡ unwrap_or (sector_chain r e) []
  large-sectors = ap (λ (b : Bool). if b then unwrap_or (sector_chain r e) [] else []) large

  large-content : content_chain r e ≡ sector_chain r e
  large-content = ap (λ (b : Bool). if b then sector_chain r e else mini_chain r e) large

  pub large-own : (list : List ℕ) → IsChain r.fat e.start_sector list → own_sectors r e ≡ list
  large-own list chain = large-sectors ∙ ap (λ (o : Option (List ℕ)). unwrap_or o []) ((chain_from-IsChain r.fat e.start_sector list).1 chain)

  pub large-fits : (list : List ℕ) → IsChain r.fat e.start_sector list → AreFresh marks list
      → (e.stream_len ≤ length (pieces_along (sector_len r.header.version) (sector_start r.header.version) bytes list)) ↔ StreamFits bytes r e marks mini_marks
  large-fits list chain fresh =
      let found : sector_chain r e ≡ Some list = (chain_from-IsChain r.fat e.start_sector list).1 chain in
      let w = whole-along bytes r e (sector_len r.header.version) (sector_start r.header.version) list (large-lies r e list record { large = large; chain = found }) in (
        λ h. record {
          chain = subst IsSome (sym (large-content ∙ found)) refl;
          sectors = subst (AreFresh marks) (sym (large-own list chain)) fresh;
          mini_sectors = subst (AreFresh mini_marks) (sym large-mini) (fresh-none mini_marks);
          whole = w.0 h;
        },
        λ f. w.1 f.whole,
      )

  pub large-none : ((list : List ℕ) → IsChain r.fat e.start_sector list → AreFresh marks list → ⊥) → StreamFits bytes r e marks mini_marks → ⊥
  large-none none f =
      let s = some-is (sector_chain r e) (subst IsSome large-content f.chain) in
      let chain = (chain_from-IsChain r.fat e.start_sector s.0).0 s.1 in
      none s.0 chain (subst (AreFresh marks) (large-own s.0 chain) f.sectors)

-- ---- a stream in mini sectors

module _ (bytes : List ℕ) (r : Reading) (e : Entry) (marks mini_marks : List Bool) (small : is_large e ≡ false) where
  pub small-sectors : own_sectors r e ≡ []
  small-sectors = ap (λ (b : Bool). if b then unwrap_or (sector_chain r e) [] else []) small

  small-mini : own_mini_sectors r e ≡ unwrap_or (mini_chain r e) []
  small-mini = ap (λ (b : Bool). if b then [] else unwrap_or (mini_chain r e) []) small

  small-content : content_chain r e ≡ mini_chain r e
  small-content = ap (λ (b : Bool). if b then sector_chain r e else mini_chain r e) small

  -- an empty stream needs nothing
  empty-chain : e.stream_len ≡ 0 → mini_chain r e ≡ Some []
  empty-chain zero_len = ap (λ (n : ℕ). if n == 0 then Some [] else chain_from r.minifat e.start_sector) zero_len

  pub empty-mini : e.stream_len ≡ 0 → own_mini_sectors r e ≡ []
  empty-mini zero_len = small-mini ∙ ap (λ (o : Option (List ℕ)). unwrap_or o []) (empty-chain zero_len)

  pub empty-fits : e.stream_len ≡ 0 → StreamFits bytes r e marks mini_marks
  unfolding placed_from
  empty-fits zero_len = record {
    chain = subst IsSome (sym (small-content ∙ empty-chain zero_len)) refl;
    sectors = subst (AreFresh marks) (sym small-sectors) (fresh-none marks);
    mini_sectors = subst (AreFresh mini_marks) (sym (empty-mini zero_len)) (fresh-none mini_marks);
    whole = ap (λ (n : ℕ). length (placed_from bytes (place_in_stream bytes r e) 0 n)) zero_len ∙ sym zero_len;
  }

  module _ (some : e.stream_len ≢ 0) where
    chain-there : mini_chain r e ≡ chain_from r.minifat e.start_sector
    chain-there = ap (λ (b : Bool). if b then Some [] else chain_from r.minifat e.start_sector) (ne_eqb e.stream_len 0 some)

    pub small-own : (list : List ℕ) → IsChain r.minifat e.start_sector list → own_mini_sectors r e ≡ list
    small-own list chain = small-mini ∙ ap (λ (o : Option (List ℕ)). unwrap_or o []) (chain-there ∙ (chain_from-IsChain r.minifat e.start_sector list).1 chain)

    pub small-fits : (root list : List ℕ) → mini_stream_chain r ≡ Some root → length r.minifat * mini_sector_len ≤ length root * sector_len r.header.version
        → IsChain r.minifat e.start_sector list → AreFresh mini_marks list
        → (e.stream_len ≤ length (pieces_along mini_sector_len (mini_start r.header.version root) bytes list)) ↔ StreamFits bytes r e marks mini_marks
    small-fits root list stream room chain fresh =
        let found : mini_chain r e ≡ Some list = chain-there ∙ (chain_from-IsChain r.minifat e.start_sector list).1 chain in
        let in_room : (m : ℕ) → Contains list m → mini_sector_len * m < length root * sector_len r.header.version = λ m c.
        let below = (follows-member r.minifat e.start_sector list chain.follows m c).0 in omega (arith, below, room) in
        let w = whole-along bytes r e mini_sector_len (mini_start r.header.version root) list
        (small-lies r e root list record { small = small; mini_stream = stream; chain = found; room = in_room }) in (
          λ h. record {
            chain = subst IsSome (sym (small-content ∙ found)) refl;
            sectors = subst (AreFresh marks) (sym small-sectors) (fresh-none marks);
            mini_sectors = subst (AreFresh mini_marks) (sym (small-own list chain)) fresh;
            whole = w.0 h;
          },
          λ f. w.1 f.whole,
        )

    pub small-none : ((list : List ℕ) → IsChain r.minifat e.start_sector list → AreFresh mini_marks list → ⊥) → StreamFits bytes r e marks mini_marks → ⊥
    small-none none f =
        let s = some-is (mini_chain r e) (subst IsSome small-content f.chain) in
        let chain = (chain_from-IsChain r.minifat e.start_sector s.0).0 (sym chain-there ∙ s.1) in
        none s.0 chain (subst (AreFresh mini_marks) (small-own s.0 chain) f.mini_sectors)

-- ---- several streams

flat-append : (f : ℕ → List ℕ) (xs ys : List ℕ) → flat_map f (xs ++ ys) ≡ flat_map f xs ++ flat_map f ys
flat-append f [] ys = refl
flat-append f (x ∷ xs) ys = ap (λ (z : List ℕ). f x ++ z) (flat-append f xs ys) ∙ sym (append_assoc (f x) (flat_map f xs) (flat_map f ys))

flat-push : (f : ℕ → List ℕ) (used xs : List ℕ) (x : ℕ) → used ++ flat_map f (xs ++ x ∷ []) ≡ (used ++ flat_map f xs) ++ f x
flat-push f used xs x =
    ap (λ (z : List ℕ). used ++ z) (flat-append f xs (x ∷ []) ∙ ap (λ (z : List ℕ). flat_map f xs ++ z) (append-nil (f x)))
    ∙ sym (append_assoc used (flat_map f xs) (f x))

flat-split : (f : ℕ → List ℕ) (used xs rest : List ℕ) (x : ℕ) → used ++ flat_map f (xs ++ x ∷ rest) ≡ ((used ++ flat_map f xs) ++ f x) ++ flat_map f rest
flat-split f used xs rest x =
    ap (λ (z : List ℕ). used ++ z) (flat-append f xs (x ∷ rest)) ∙ sym (append_assoc used (flat_map f xs) (f x ++ flat_map f rest))
    ∙ sym (append_assoc (used ++ flat_map f xs) (f x) (flat_map f rest))

module _ (bytes : List ℕ) (r : Reading) (used mini_used : List ℕ) where
  sectors_at : ℕ → List ℕ
  sectors_at i = own_sectors r (entry_at r.entries i)

  minis_at : ℕ → List ℕ
  minis_at i = own_mini_sectors r (entry_at r.entries i)

  pub streams-none : IsDistinct nat_eq used → IsDistinct nat_eq mini_used → StreamsFit bytes r [] used mini_used
  streams-none d m = record {
    chains = λ i c. absurd (Contains-nil i c);
    sectors = subst (IsDistinct nat_eq) (sym (append-nil used)) d;
    mini_sectors = subst (IsDistinct nat_eq) (sym (append-nil mini_used)) m;
    whole = λ i c. absurd (Contains-nil i c);
  }

  -- the marks after one more stream
  pub holds-stream : (f : ℕ → List ℕ) (base list : List ℕ) (i : ℕ) (old new : List Bool) → HoldsMarks (base ++ flat_map f list) old → AreFresh old (f i) → Marked old (f i) new
      → HoldsMarks (base ++ flat_map f (list ++ i ∷ [])) new
  holds-stream f base list i old new holds fresh marked =
      subst (λ (z : List ℕ). HoldsMarks z new) (sym (flat-push f base list i)) (holds-more (base ++ flat_map f list) (f i) old new holds fresh marked)

  pub streams-more : (list : List ℕ) (i : ℕ) (marks mini_marks : List Bool) → StreamsFit bytes r list used mini_used
      → HoldsMarks (used ++ flat_map (λ k. own_sectors r (entry_at r.entries k)) list) marks
      → HoldsMarks (mini_used ++ flat_map (λ k. own_mini_sectors r (entry_at r.entries k)) list) mini_marks
      → StreamFits bytes r (entry_at r.entries i) marks mini_marks → StreamsFit bytes r (list ++ i ∷ []) used mini_used
  unfolding sectors_at minis_at
  streams-more list i marks mini_marks s holds mini_holds f = record {
    chains = λ k c. elim (Contains-append_cases list (i ∷ []) k c) [
      | inl l ↦ s.chains k l
      | inr one ↦ subst (λ (n : ℕ). IsSome (content_chain r (entry_at r.entries n))) (Contains-one i k one) f.chain
    ];
    sectors = subst (IsDistinct nat_eq) (sym (flat-push sectors_at used list i))
        (distinct-join (used ++ flat_map sectors_at list) (sectors_at i) holds.once f.sectors.once (λ k m n. f.sectors.unmarked k n (holds.marked k m)));
    mini_sectors = subst (IsDistinct nat_eq) (sym (flat-push minis_at mini_used list i))
        (distinct-join (mini_used ++ flat_map minis_at list) (minis_at i) mini_holds.once f.mini_sectors.once (λ k m n. f.mini_sectors.unmarked k n (mini_holds.marked k m)));
    whole = λ k c. elim (Contains-append_cases list (i ∷ []) k c) [
      | inl l ↦ s.whole k l
      | inr one ↦ subst (λ (n : ℕ). length (readable bytes r (entry_at r.entries n)) ≡ (entry_at r.entries n).stream_len) (Contains-one i k one) f.whole
    ];
  }

  -- where all streams fit, each does beside those before it
  pub streams-each : (list rest : List ℕ) (i : ℕ) (marks mini_marks : List Bool) → StreamsFit bytes r (list ++ i ∷ rest) used mini_used
      → HoldsMarks (used ++ flat_map (λ k. own_sectors r (entry_at r.entries k)) list) marks
      → HoldsMarks (mini_used ++ flat_map (λ k. own_mini_sectors r (entry_at r.entries k)) list) mini_marks
      → StreamFits bytes r (entry_at r.entries i) marks mini_marks
  unfolding sectors_at minis_at
  streams-each list rest i marks mini_marks s holds mini_holds =
      let here : Contains (list ++ i ∷ rest) i = Contains-append_right list (i ∷ rest) i (Contains-here i rest) in
      record {
        chain = s.chains i here;
        sectors = fresh-from (used ++ flat_map sectors_at list) (sectors_at i) marks holds
            (distinct-left ((used ++ flat_map sectors_at list) ++ sectors_at i) (flat_map sectors_at rest) (subst (IsDistinct nat_eq) (flat-split sectors_at used list rest i) s.sectors));
        mini_sectors = fresh-from (mini_used ++ flat_map minis_at list) (minis_at i) mini_marks mini_holds
            (distinct-left ((mini_used ++ flat_map minis_at list) ++ minis_at i) (flat_map minis_at rest) (subst (IsDistinct nat_eq) (flat-split minis_at mini_used list rest i) s.mini_sectors));
        whole = s.whole i here;
      }

-- ---- one more stream of those that are gone over

-- the entry of a number
pub entry-there : {A : Type 0} (entries : List (DirEntry A)) (i : ℕ) (e : DirEntry A) → i < length entries → entry_at (map entry_of entries) i ≡ entry_of (slice_index_or entries i e)
entry-there entries i e lt = get_or-map entry_of entries i e unallocated_entry lt

-- a number without an entry
pub entry-past : {A : Type 0} (entries : List (DirEntry A)) (i : ℕ) → length entries ≤ i → entry_at (map entry_of entries) i ≡ unallocated_entry
entry-past entries i ge = get_or_past (map entry_of entries) i unallocated_entry (let n = length-map entries entry_of in omega (arith, ge, n))

-- the streams gone over, and the marks then
pub record Gone (r : Reading) (size : ℕ) (marks mini_marks : List Bool) (list : List ℕ) (marks' mini_marks' : List Bool) : Type 0 where
  pub fit : (bytes used mini_used : List ℕ) → length bytes ≡ size → HoldsMarks used marks → HoldsMarks mini_used mini_marks → StreamsFit bytes r list used mini_used
  pub marked : (used : List ℕ) → HoldsMarks used marks → HoldsMarks (used ++ flat_map (λ k. own_sectors r (entry_at r.entries k)) list) marks'
  pub mini_marked : (used : List ℕ) → HoldsMarks used mini_marks → HoldsMarks (used ++ flat_map (λ k. own_mini_sectors r (entry_at r.entries k)) list) mini_marks'

pub gone-none : (r : Reading) (size : ℕ) (marks mini_marks : List Bool) → Gone r size marks mini_marks [] marks mini_marks
gone-none r size marks mini_marks = record {
  fit = λ bytes used mini_used _s h m. streams-none bytes r used mini_used h.once m.once;
  marked = λ used h. subst (λ (z : List ℕ). HoldsMarks z marks) (sym (append-nil used)) h;
  mini_marked = λ used h. subst (λ (z : List ℕ). HoldsMarks z mini_marks) (sym (append-nil used)) h;
}

module _ (r : Reading) (size : ℕ) (marks mini_marks : List Bool) (list : List ℕ) (mid mini_mid new mini_new : List Bool) (gone : Gone r size marks mini_marks list mid mini_mid) (i : ℕ) where
  pub gone-more : ((bytes : List ℕ) → length bytes ≡ size → StreamFits bytes r (entry_at r.entries i) mid mini_mid)
      → Marked mid (own_sectors r (entry_at r.entries i)) new → Marked mini_mid (own_mini_sectors r (entry_at r.entries i)) mini_new
      → Gone r size marks mini_marks (list ++ i ∷ []) new mini_new
  gone-more fits marked mini_marked =
      let some = fits (replicate size 0) (length-replicate size 0) in
      record {
        fit = λ bytes used mini_used s h m. streams-more bytes r used mini_used list i mid mini_mid (gone.fit bytes used mini_used s h m) (gone.marked used h) (gone.mini_marked mini_used m) (fits bytes s);
        marked = λ used h. holds-stream [] r [] [] (λ k. own_sectors r (entry_at r.entries k)) used list i mid new (gone.marked used h) some.sectors marked;
        mini_marked = λ used h. holds-stream [] r [] [] (λ k. own_mini_sectors r (entry_at r.entries k)) used list i mini_mid mini_new (gone.mini_marked used h) some.mini_sectors mini_marked;
      }

  -- a stream that doesn't fit beside those gone over
  pub gone-refused : (bytes used mini_used rest : List ℕ) → length bytes ≡ size → HoldsMarks used marks → HoldsMarks mini_used mini_marks
      → (StreamFits bytes r (entry_at r.entries i) mid mini_mid → ⊥) → StreamsFit bytes r (list ++ i ∷ rest) used mini_used → ⊥
  gone-refused bytes used mini_used rest s h m not f =
      not (streams-each bytes r used mini_used list rest i mid mini_mid f (gone.marked used h) (gone.mini_marked mini_used m))

-- what is not used is empty
pub gone-past : (r : Reading) (size : ℕ) (marks mini_marks : List Bool) (list : List ℕ) (mid mini_mid : List Bool) → Gone r size marks mini_marks list mid mini_mid → (i : ℕ)
    → entry_at r.entries i ≡ unallocated_entry → Gone r size marks mini_marks (list ++ i ∷ []) mid mini_mid
gone-past r size marks mini_marks list mid mini_mid gone i none =
    gone-more r size marks mini_marks list mid mini_mid mid mini_mid gone i
    (λ bytes s. subst (λ (e : Entry). StreamFits bytes r e mid mini_mid) (sym none) (empty-fits bytes r unallocated_entry mid mini_mid refl refl))
    (subst (λ (e : Entry). Marked mid (own_sectors r e) mid) (sym none) (marked-none mid))
    (subst (λ (e : Entry). Marked mini_mid (own_mini_sectors r e) mini_mid) (sym none) (marked-none mini_mid))
