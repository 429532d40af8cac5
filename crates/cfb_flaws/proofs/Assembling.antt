-- All claims together.
use Rattle.std.proofs.Common.{◌≡◌, ◌<◌, ℕ, List, [], ◌++◌, Bool, true, false, length, replicate, take, refl, sym, ◌∙◌, ap, subst, arith, inl, inr}
use Rattle.std.specs.Prelude.{Contains, slice_index, map}
use Rattle.std.proofs.lemmas.Bool.{cases_lt}
use Rattle.std.proofs.lemmas.List.{get_or-replicate, get_or_past, length-replicate, length-map, take-append-le, take_all}
use Rattle.std.proofs.lemmas.List.Elements.{Contains-append_left, Contains-append_right}
use Rattle.cfb_format.specs.Chain.{Follows, IsChain}
use Rattle.cfb_format.specs.Fat.{is_among}
use Rattle.cfb_format.specs.Names.{Cases}
use Rattle.cfb_format.specs.Reading.{Reading, Reads, no_more}
use Rattle.cfb_format.specs.Siblings.{entry_at}
use Rattle.cfb_format.specs.Soundness.{mini_stream_sectors, streams, owner, mini_owner}
use Rattle.cfb_codecs.specs.EntryModel.{entry_of}
use Rattle.cfb_soundness.specs.declared.parts.Parts.{Parts}
use Rattle.cfb_soundness.specs.Marks.{mark_at}
use Rattle.cfb_soundness.specs.Parts.{parts_reading, header_of}
use Rattle.cfb_soundness.specs.Streams.{own_sectors, own_mini_sectors}
use Rattle.cfb_soundness.proofs.Decision.{known}
use Rattle.cfb_soundness.proofs.MarkLemmas.{true_false}
use Rattle.cfb_flaws.specs.declared.owner.Owner.{Owner}
use Rattle.cfb_flaws.specs.declared.owner.Owner.TheVariants.{Fat, Difat, Directory, Minifat, MiniStream, Unused}
use Rattle.cfb_flaws.specs.Owners.{AreKept, AreOwners, is_unused, is_chained, meant, owner_at}
use Rattle.cfb_flaws.specs.Claims.{chain_of, claimed_by, Claimed, ClaimedInTurn, first_claim, freed, Freed, IsKnown, IsNew}
use Rattle.cfb_flaws.proofs.Composing.{five_claims, owner-composed, mini-owner-composed}
use Rattle.cfb_flaws.proofs.Claiming.{tables-begin-none}

-- ---- the beginning: nothing has an owner, and nothing was seen

pub none-owns : (n i : ℕ) → owner_at (replicate n Unused) i ≡ Unused
none-owns n i = elim (cases_lt i n) [
  | inl lt ↦ get_or-replicate n i Unused Unused lt
  | inr ge ↦ get_or_past (replicate n Unused) i Unused (let len = length-replicate n Unused in omega (arith, ge, len))
]

none-seen : (n i : ℕ) → mark_at (replicate n false) i ≡ false
none-seen n i = elim (cases_lt i n) [
  | inl lt ↦ get_or-replicate n i false false lt
  | inr ge ↦ get_or_past (replicate n false) i false (let len = length-replicate n false in omega (arith, ge, len))
]

pub new-of : (n m : ℕ) (owners : List Owner) (seen : List Bool) → owners ≡ replicate n Unused → seen ≡ replicate m false → IsNew owners seen
new-of n m owners seen is was = record {
  unowned = λ i. ap (λ (z : List Owner). owner_at z i) is ∙ none-owns n i;
  unseen = λ i. ap (λ (z : List Bool). mark_at z i) was ∙ none-seen m i;
}

pub known-none : (table : List ℕ) (owners : List Owner) (seen : List Bool) → IsNew owners seen → IsKnown table owners seen
known-none table owners seen new = record {
  chained = λ i e. absurd (true_false (is_chained (owner_at owners i)) e (ap is_chained (new.unowned i)));
  broken = λ i e unheld list f. true_false (mark_at seen i) e (new.unseen i);
  noted = λ i e. absurd (true_false (is_unused (owner_at owners i)) (ap is_unused (new.unowned i)) e);
}

-- ---- the end

pub record AllClaims (fat fs ds dir mf ms : List ℕ) (members : ℕ → List ℕ) (list : List ℕ) (first last : List Owner) : Type 0 where
  pub one : List Owner
  pub two : List Owner
  pub three : List Owner
  pub four : List Owner
  pub five : List Owner
  pub six : List Owner
  pub len : length first ≡ length fat
  pub none : (i : ℕ) → owner_at first i ≡ Unused
  pub claim_fat : Claimed first fs Fat one
  pub claim_difat : Claimed one ds Difat two
  pub claim_directory : Claimed two dir Directory three
  pub claim_minifat : Claimed three mf Minifat four
  pub claim_root : Claimed four ms MiniStream five
  pub in_turn : ClaimedInTurn five members list six
  pub freed_at_last : Freed fat six last

module _ (fat fs ds dir mf ms : List ℕ) (members : ℕ → List ℕ) (list : List ℕ) (first last : List Owner) (c : AllClaims fat fs ds dir mf ms members list first last) where
  pub all-len : length last ≡ length fat
  all-len = c.freed_at_last.len ∙ c.in_turn.len ∙ c.claim_root.len ∙ c.claim_minifat.len ∙ c.claim_directory.len ∙ c.claim_difat.len ∙ c.claim_fat.len ∙ c.len

  pub all-claimed : (i : ℕ) → i < length fat
      → owner_at last i ≡ freed (first_claim members i (five_claims (is_among fs i) (is_among ds i) (is_among dir i) (is_among mf i) (is_among ms i)) list) (slice_index fat i)
  all-claimed i lt =
      let l0 : length first ≡ length fat = c.len in
      let l1 : length c.one ≡ length fat = c.claim_fat.len ∙ l0 in
      let l2 : length c.two ≡ length fat = c.claim_difat.len ∙ l1 in
      let l3 : length c.three ≡ length fat = c.claim_directory.len ∙ l2 in
      let l4 : length c.four ≡ length fat = c.claim_minifat.len ∙ l3 in
      let l5 : length c.five ≡ length fat = c.claim_root.len ∙ l4 in
      let l6 : length c.six ≡ length fat = c.in_turn.len ∙ l5 in
      let e1 : owner_at c.one i ≡ claimed_by Unused (is_among fs i) Fat =
      c.claim_fat.each i (omega (arith, lt, l0)) ∙ ap (λ (o : Owner). claimed_by o (is_among fs i) Fat) (c.none i) in
      let e2 : owner_at c.two i ≡ claimed_by (claimed_by Unused (is_among fs i) Fat) (is_among ds i) Difat =
      c.claim_difat.each i (omega (arith, lt, l1)) ∙ ap (λ (o : Owner). claimed_by o (is_among ds i) Difat) e1 in
      let e3 = c.claim_directory.each i (omega (arith, lt, l2)) ∙ ap (λ (o : Owner). claimed_by o (is_among dir i) Directory) e2 in
      let e4 = c.claim_minifat.each i (omega (arith, lt, l3)) ∙ ap (λ (o : Owner). claimed_by o (is_among mf i) Minifat) e3 in
      let e5 : owner_at c.five i ≡ five_claims (is_among fs i) (is_among ds i) (is_among dir i) (is_among mf i) (is_among ms i) =
      c.claim_root.each i (omega (arith, lt, l4)) ∙ ap (λ (o : Owner). claimed_by o (is_among ms i) MiniStream) e4 in
      c.freed_at_last.each i (omega (arith, lt, l6))
      ∙ ap (λ (o : Owner). freed o (slice_index fat i)) (c.in_turn.each i (omega (arith, lt, l5)) ∙ ap (λ (o : Owner). first_claim members i o list) e5)

-- the same of the lists of a file
abbrev pub ClaimsOf : Reading → List ℕ → List Owner → List Owner → Type 0
ClaimsOf q list first last = AllClaims q.fat q.fat_sectors q.difat_sectors q.directory q.minifat_sectors (mini_stream_sectors q)
    (λ k. own_sectors q (entry_at q.entries k)) list first last

-- and of its mini sectors
abbrev pub TurnsOf : Reading → List ℕ → List Owner → List Owner → Type 0
TurnsOf q list first last = ClaimedInTurn first (λ k. own_mini_sectors q (entry_at q.entries k)) list last

-- ---- the parts

abbrev bare : Reading → Reading
bare r = record {
  header = header_of r.header.version;
  fat_sectors = r.fat_sectors;
  difat_sectors = r.difat_sectors;
  fat = r.fat;
  directory = r.directory;
  entries = r.entries;
  outline = no_more;
  minifat_sectors = r.minifat_sectors;
  minifat = r.minifat;
}

module _ {A : Type 0} (parts : Parts A) (cases : Cases) (bytes : List ℕ) (r : Reading) (reads : Reads cases bytes r) (are : AreKept parts bytes r) where
  pub same-parts : parts_reading parts ≡ bare r
  same-parts = λ i. record {
    header = header_of (are.version i);
    fat_sectors = are.fat_sectors i;
    difat_sectors = are.difat_sectors i;
    fat = are.fat i;
    directory = are.directory i;
    entries = are.entries i;
    outline = no_more;
    minifat_sectors = are.minifat_sectors i;
    minifat = are.minifat i;
  }

  pub fat-begins-none : (i : ℕ) → Contains parts.fat_sectors.now i → (xs : List ℕ) → Follows parts.fat.now i xs → ⊥
  fat-begins-none i m xs f = tables-begin-none cases bytes r reads i
      (Contains-append_left r.fat_sectors r.difat_sectors i (subst (λ (z : List ℕ). Contains z i) are.fat_sectors m)) xs (subst (λ (z : List ℕ). Follows z i xs) are.fat f)

  pub difat-begins-none : (i : ℕ) → Contains parts.difat_sectors.now i → (xs : List ℕ) → Follows parts.fat.now i xs → ⊥
  difat-begins-none i m xs f = tables-begin-none cases bytes r reads i
      (Contains-append_right r.fat_sectors r.difat_sectors i (subst (λ (z : List ℕ). Contains z i) are.difat_sectors m)) xs (subst (λ (z : List ℕ). Follows z i xs) are.fat f)

  pub directory-chain : IsChain parts.fat.now r.header.first_dir_sector parts.directory.now
  directory-chain = subst (λ (p : List ℕ × List ℕ). IsChain p.0 r.header.first_dir_sector p.1) (sym (λ i. (are.fat i, are.directory i))) reads.directory.chain

  pub minifat-chain : IsChain parts.fat.now r.header.first_minifat_sector parts.minifat_sectors.now
  minifat-chain = subst (λ (p : List ℕ × List ℕ). IsChain p.0 r.header.first_minifat_sector p.1) (sym (λ i. (are.fat i, are.minifat_sectors i))) reads.minifat.chain

  pub some-entry : 0 < length parts.entries.now
  some-entry =
      let k = (known cases bytes r reads).some_entry in
      let e = ap length are.entries in
      let n = length-map parts.entries.now entry_of in
      omega (arith, k, e, n)

  pub sector-owners : (first last : List Owner) → ClaimsOf (parts_reading parts) parts.streams.now first last → AreOwners r.fat (owner r) last
  sector-owners first last c =
      let p : ClaimsOf (bare r) (streams r) first last =
      subst (λ (x : Reading × List ℕ). ClaimsOf x.0 x.1 first last) (λ i. (same-parts i, are.streams i)) c in
      record {
        len = all-len r.fat r.fat_sectors r.difat_sectors r.directory r.minifat_sectors (mini_stream_sectors r) (λ k. own_sectors r (entry_at r.entries k)) (streams r) first last p;
        each = λ i lt.
            ap meant (all-claimed r.fat r.fat_sectors r.difat_sectors r.directory r.minifat_sectors (mini_stream_sectors r) (λ k. own_sectors r (entry_at r.entries k)) (streams r) first last p i lt)
            ∙ owner-composed r i (slice_index r.fat i) refl;
      }

  pub mini-sector-owners : (first middle last : List Owner) → length first ≡ length parts.minifat.now → ((i : ℕ) → owner_at first i ≡ Unused)
      → TurnsOf (parts_reading parts) parts.streams.now first middle → Freed parts.minifat.now middle last → AreOwners r.minifat (mini_owner r) last
  mini-sector-owners first middle last len none turn free =
      let t : TurnsOf (bare r) (streams r) first middle =
      subst (λ (x : Reading × List ℕ). TurnsOf x.0 x.1 first middle) (λ i. (same-parts i, are.streams i)) turn in
      let f : Freed r.minifat middle last = subst (λ (z : List ℕ). Freed z middle last) are.minifat free in
      let l0 : length first ≡ length r.minifat = len ∙ ap length are.minifat in
      let l1 : length middle ≡ length r.minifat = t.len ∙ l0 in
      record {
        len = f.len ∙ l1;
        each = λ i lt.
            ap meant (f.each i (omega (arith, lt, l1)) ∙ ap (λ (o : Owner). freed o (slice_index r.minifat i))
            (t.each i (omega (arith, lt, l0)) ∙ ap (λ (o : Owner). first_claim (λ k. own_mini_sectors r (entry_at r.entries k)) i o (streams r)) (none i)))
            ∙ mini-owner-composed r i (slice_index r.minifat i) refl;
      }

-- ---- what a vector has once it was lent

pub written-back : (len : ℕ) (new rest : List Owner) → length new ≡ len → take len (new ++ rest) ≡ new
written-back len new rest is = take-append-le len new rest (omega (arith, is)) ∙ take_all len new (omega (arith, is))
