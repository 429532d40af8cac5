-- The claims of all lists in turn give each number the owner that the format names.
use Rattle.std.proofs.Common.{◌≡◌, ◌<◌, inl, inr, ℕ, List, [], ◌∷◌, ◌++◌, Bool, true, false, refl, sym, ◌∙◌, ap, length, arith}
use Rattle.std.specs.Prelude.{slice_index, filter, unwrap_or, if◌then◌else◌, ◌==◌, not, cond, ◌&&◌}
use Rattle.cfb_format.specs.Bytes.{free_sector}
use Rattle.cfb_format.specs.Content.{is_large, mini_chain}
use Rattle.cfb_format.specs.Fat.{is_among}
use Rattle.cfb_format.specs.Reading.{Reading}
use Rattle.cfb_format.specs.Siblings.{entry_at}
use Rattle.cfb_format.specs.Soundness.{Owner as OwnerOf, fat_table, difat_table, directory_of_file, minifat_table, mini_stream, one_stream, is_free, no_owner, first_owner, owner, mini_owner, sectors_of, mini_sectors_of, mini_stream_sectors, streams, large_streams, small_streams}
use Rattle.cfb_soundness.specs.Streams.{own_sectors, own_mini_sectors}
use Rattle.cfb_flaws.specs.declared.owner.Owner.{Owner}
use Rattle.cfb_flaws.specs.declared.owner.Owner.TheVariants.{Fat, Difat, Directory, Minifat, MiniStream, Stream, Free, Unused}
use Rattle.cfb_flaws.specs.Owners.{meant, is_unused, owner_at}
use Rattle.cfb_flaws.specs.Claims.{claimed_by, Claimed, ClaimedInTurn, first_claim, freed}

-- what has an owner keeps it
pub first-stays : (members : ℕ → List ℕ) (i : ℕ) (o : Owner) (list : List ℕ) → is_unused o ≡ false → first_claim members i o list ≡ o
first-stays members i o [] e = refl
first-stays members i o (k ∷ rest) e =
    ap (λ (u : Bool). first_claim members i (if u && is_among (members k) i then Stream k else o) rest) e ∙ first-stays members i o rest e

pub first-push : (members : ℕ → List ℕ) (i : ℕ) (o : Owner) (list : List ℕ) (k : ℕ)
    → first_claim members i o (list ++ k ∷ []) ≡ claimed_by (first_claim members i o list) (is_among (members k) i) (Stream k)
first-push members i o [] k = refl
first-push members i o (x ∷ list) k = first-push members i (claimed_by o (is_among (members x) i) (Stream x)) list k

pub turn-more : (old cur new : List Owner) (members : ℕ → List ℕ) (done : List ℕ) (k : ℕ) → ClaimedInTurn old members done cur → Claimed cur (members k) (Stream k) new
    → ClaimedInTurn old members (done ++ k ∷ []) new
turn-more old cur new members done k turn c = record {
  len = c.len ∙ turn.len;
  each = λ i lt.
      let l = turn.len in
      c.each i (omega (arith, lt, l)) ∙ ap (λ (o : Owner). claimed_by o (is_among (members k) i) (Stream k)) (turn.each i lt)
      ∙ sym (first-push members i (owner_at old i) done k);
}

-- what no stream claims is free or has no owner
unclaimed : (w : ℕ) → meant (freed Unused w) ≡ (if w == free_sector then is_free else no_owner)
unclaimed w = go (w == free_sector)
  where
    go : (b : Bool) → meant (if b then Free else Unused) ≡ (if b then is_free else no_owner)
    go true = refl
    go false = refl

kept-stream : (members : ℕ → List ℕ) (i k w : ℕ) (rest : List ℕ) → meant (freed (first_claim members i (Stream k) rest) w) ≡ one_stream k
kept-stream members i k w rest = ap (λ (o : Owner). meant (freed o w)) (first-stays members i (Stream k) rest refl)

module _ (r : Reading) (i w : ℕ) where
  large-first : (list : List ℕ)
      → meant (freed (first_claim (λ k. own_sectors r (entry_at r.entries k)) i Unused list) w)
      ≡ first_owner (sectors_of r) i (if w == free_sector then is_free else no_owner) (filter (λ k. is_large (entry_at r.entries k)) list)
  large-first [] = unclaimed w
  large-first (k ∷ rest) = go (is_large (entry_at r.entries k)) (is_among (sectors_of r k) i) refl (large-first rest)
    where
      go : (b c : Bool) → is_among (sectors_of r k) i ≡ c
          → meant (freed (first_claim (λ k. own_sectors r (entry_at r.entries k)) i Unused rest) w) ≡ first_owner (sectors_of r) i (if w == free_sector then is_free else no_owner) (filter (λ k. is_large (entry_at r.entries k)) rest)
          → meant (freed (first_claim (λ k. own_sectors r (entry_at r.entries k)) i (claimed_by Unused (is_among (if b then sectors_of r k else []) i) (Stream k)) rest) w)
          ≡ first_owner (sectors_of r) i (if w == free_sector then is_free else no_owner) (cond b (k ∷ filter (λ k. is_large (entry_at r.entries k)) rest) (filter (λ k. is_large (entry_at r.entries k)) rest))
      go true true e next =
          ap (λ (c : Bool). meant (freed (first_claim (λ k. own_sectors r (entry_at r.entries k)) i (if c then Stream k else Unused) rest) w)) e
          ∙ kept-stream (λ k. own_sectors r (entry_at r.entries k)) i k w rest
          ∙ sym (ap (λ (c : Bool). if c then one_stream k else first_owner (sectors_of r) i (if w == free_sector then is_free else no_owner) (filter (λ k. is_large (entry_at r.entries k)) rest)) e)
      go true false e next =
          ap (λ (c : Bool). meant (freed (first_claim (λ k. own_sectors r (entry_at r.entries k)) i (if c then Stream k else Unused) rest) w)) e
          ∙ next
          ∙ sym (ap (λ (c : Bool). if c then one_stream k else first_owner (sectors_of r) i (if w == free_sector then is_free else no_owner) (filter (λ k. is_large (entry_at r.entries k)) rest)) e)
      go false c e next = next

  small-first : (list : List ℕ)
      → meant (freed (first_claim (λ k. own_mini_sectors r (entry_at r.entries k)) i Unused list) w)
      ≡ first_owner (mini_sectors_of r) i (if w == free_sector then is_free else no_owner) (filter (λ k. not (is_large (entry_at r.entries k))) list)
  small-first [] = unclaimed w
  small-first (k ∷ rest) = go (is_large (entry_at r.entries k)) (is_among (mini_sectors_of r k) i) refl (small-first rest)
    where
      go : (b c : Bool) → is_among (mini_sectors_of r k) i ≡ c
          → meant (freed (first_claim (λ k. own_mini_sectors r (entry_at r.entries k)) i Unused rest) w) ≡ first_owner (mini_sectors_of r) i (if w == free_sector then is_free else no_owner) (filter (λ k. not (is_large (entry_at r.entries k))) rest)
          → meant (freed (first_claim (λ k. own_mini_sectors r (entry_at r.entries k)) i (claimed_by Unused (is_among (if b then [] else mini_sectors_of r k) i) (Stream k)) rest) w)
          ≡ first_owner (mini_sectors_of r) i (if w == free_sector then is_free else no_owner) (cond (not b) (k ∷ filter (λ k. not (is_large (entry_at r.entries k))) rest) (filter (λ k. not (is_large (entry_at r.entries k))) rest))
      go false true e next =
          ap (λ (c : Bool). meant (freed (first_claim (λ k. own_mini_sectors r (entry_at r.entries k)) i (if c then Stream k else Unused) rest) w)) e
          ∙ kept-stream (λ k. own_mini_sectors r (entry_at r.entries k)) i k w rest
          ∙ sym (ap (λ (c : Bool). if c then one_stream k else first_owner (mini_sectors_of r) i (if w == free_sector then is_free else no_owner) (filter (λ k. not (is_large (entry_at r.entries k))) rest)) e)
      go false false e next =
          ap (λ (c : Bool). meant (freed (first_claim (λ k. own_mini_sectors r (entry_at r.entries k)) i (if c then Stream k else Unused) rest) w)) e
          ∙ next
          ∙ sym (ap (λ (c : Bool). if c then one_stream k else first_owner (mini_sectors_of r) i (if w == free_sector then is_free else no_owner) (filter (λ k. not (is_large (entry_at r.entries k))) rest)) e)
      go true c e next = next

-- who has a number after the tables and the directory
abbrev pub five_claims : Bool → Bool → Bool → Bool → Bool → Owner
five_claims a b c d e = claimed_by (claimed_by (claimed_by (claimed_by (claimed_by Unused a Fat) b Difat) c Directory) d Minifat) e MiniStream

pub owner-composed : (r : Reading) (i w : ℕ) → slice_index r.fat i ≡ w
    → meant (freed (first_claim (λ k. own_sectors r (entry_at r.entries k)) i
    (five_claims (is_among r.fat_sectors i) (is_among r.difat_sectors i) (is_among r.directory i) (is_among r.minifat_sectors i) (is_among (mini_stream_sectors r) i)) (streams r)) w)
    ≡ owner r i
owner-composed r i w is =
    go (is_among r.fat_sectors i) (is_among r.difat_sectors i) (is_among r.directory i) (is_among r.minifat_sectors i) (is_among (mini_stream_sectors r) i)
  where
    stays : (o : Owner) → is_unused o ≡ false → freed o w ≡ o → meant (freed (first_claim (λ k. own_sectors r (entry_at r.entries k)) i o (streams r)) w) ≡ meant o
    stays o e f = ap (λ (x : Owner). meant (freed x w)) (first-stays (λ k. own_sectors r (entry_at r.entries k)) i o (streams r) e) ∙ ap meant f

    go : (a b c d e : Bool) → meant (freed (first_claim (λ k. own_sectors r (entry_at r.entries k)) i (five_claims a b c d e) (streams r)) w)
        ≡ (if a then fat_table else if b then difat_table else if c then directory_of_file else if d then minifat_table else if e then mini_stream
        else first_owner (sectors_of r) i (if slice_index r.fat i == free_sector then is_free else no_owner) (large_streams r))
    go true b c d e = stays Fat refl refl
    go false true c d e = stays Difat refl refl
    go false false true d e = stays Directory refl refl
    go false false false true e = stays Minifat refl refl
    go false false false false true = stays MiniStream refl refl
    go false false false false false = large-first r i w (streams r)
        ∙ ap (λ (x : ℕ). first_owner (sectors_of r) i (if x == free_sector then is_free else no_owner) (large_streams r)) (sym is)

pub mini-owner-composed : (r : Reading) (i w : ℕ) → slice_index r.minifat i ≡ w
    → meant (freed (first_claim (λ k. own_mini_sectors r (entry_at r.entries k)) i Unused (streams r)) w) ≡ mini_owner r i
mini-owner-composed r i w is = small-first r i w (streams r)
    ∙ ap (λ (x : ℕ). first_owner (mini_sectors_of r) i (if x == free_sector then is_free else no_owner) (small_streams r)) (sym is)
