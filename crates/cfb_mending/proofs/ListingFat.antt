-- The lists of FAT sectors that the DIFAT gives: entry by entry, and one of its sectors after the other.
use Rattle.std.proofs.Common.{◌≡◌, ◌<◌, ℕ, zero, suc, ◌+◌, ◌-◌, ◌*◌, List, [], ◌∷◌, ◌++◌, Bool, true, false, refl, sym, ◌∙◌, ap, arith, append_assoc, append-nil}
use Rattle.std.specs.Prelude.{◌&&◌, ◌||◌, not, nat_lt, Option, Some, None, if◌then◌else◌}
use Rattle.cfb_format.specs.declared.version.Version.{Version}
use Rattle.cfb_format.specs.Bytes.{word_at, sector_start, is_regular, points_below, end_of_chain}
use Rattle.cfb_mending.specs.declared.patches.Patch.{Patch}
use Rattle.cfb_mending.specs.Listing.{ListsOne, entries_in, is_entry_missing, is_named_cut, listed_behind, listed_from, listed_patches, named_from, named_patches, patched_behind}
use Rattle.cfb_mending.specs.Missing.{free_up_to, has_word, leads_below, link_place, mark_at}
use Rattle.cfb_mending.proofs.ChainWalk.{list-goes}

-- ---- tests

-- a word that the file has names one of the first n sectors
pub is-below : (n : ℕ) (bytes : List ℕ) (at word : ℕ) → has_word bytes at ≡ true → word_at bytes at ≡ word → is_regular word ≡ true → nat_lt word n ≡ true → leads_below n bytes at ≡ true
is-below n bytes at word has named r l = λ j. has j && ((ap is_regular named ∙ r) j && (ap (λ (w : ℕ). nat_lt w n) named ∙ l) j)

-- or one that the file has not
pub not-below : (n : ℕ) (bytes : List ℕ) (at word : ℕ) → has_word bytes at ≡ true → word_at bytes at ≡ word → is_regular word ≡ true → nat_lt word n ≡ false → leads_below n bytes at ≡ false
not-below n bytes at word has named r l = λ j. has j && ((ap is_regular named ∙ r) j && (ap (λ (w : ℕ). nat_lt w n) named ∙ l) j)

pub entry-past : (n : ℕ) (bytes : List ℕ) (at word : ℕ) → has_word bytes at ≡ true → word_at bytes at ≡ word → is_regular word ≡ true → nat_lt word n ≡ false → is_entry_missing n bytes at ≡ true
entry-past n bytes at word has named r l = λ j. not (has j) || not (not ((ap is_regular named ∙ r) j) || (ap (λ (w : ℕ). nat_lt w n) named ∙ l) j)

pub entry-missing : (n : ℕ) (bytes : List ℕ) (at : ℕ) → has_word bytes at ≡ false → is_entry_missing n bytes at ≡ true
entry-missing n bytes at lacks = λ j. not (lacks j) || not (points_below n (word_at bytes at))

pub entry-mark : (n : ℕ) (bytes : List ℕ) (at word : ℕ) → has_word bytes at ≡ true → word_at bytes at ≡ word → is_regular word ≡ false → is_entry_missing n bytes at ≡ false
entry-mark n bytes at word has named r = λ j. not (has j) || not (not ((ap is_regular named ∙ r) j) || nat_lt (word_at bytes at) n)

-- ---- entries

module _ (n : ℕ) (bytes : List ℕ) where
  pub named-goes : (at k : ℕ) → leads_below n bytes at ≡ true → named_from n bytes at (suc k) ≡ word_at bytes at ∷ named_from n bytes (at + 4) k
  unfolding named_from
  named-goes at k e = λ j. if e j then word_at bytes at ∷ named_from n bytes (at + 4) k else []

  pub named-ends : (at k : ℕ) → leads_below n bytes at ≡ false → named_from n bytes at k ≡ []
  unfolding named_from
  named-ends at zero e = refl
  named-ends at (suc k) e = λ j. if e j then word_at bytes at ∷ named_from n bytes (at + 4) k else []

  pub named-spent : (at k : ℕ) → k ≡ 0 → named_from n bytes at k ≡ []
  unfolding named_from
  named-spent at k e = ap (λ (i : ℕ). named_from n bytes at i) e

  pub cut-goes : (at k : ℕ) → leads_below n bytes at ≡ true → is_named_cut n bytes at (suc k) ≡ is_named_cut n bytes (at + 4) k
  unfolding is_named_cut
  cut-goes at k e = λ j. if e j then is_named_cut n bytes (at + 4) k else is_entry_missing n bytes at

  pub cut-ends : (at k : ℕ) → leads_below n bytes at ≡ false → is_named_cut n bytes at (suc k) ≡ is_entry_missing n bytes at
  unfolding is_named_cut
  cut-ends at k e = λ j. if e j then is_named_cut n bytes (at + 4) k else is_entry_missing n bytes at

  pub cut-spent : (at k : ℕ) → k ≡ 0 → is_named_cut n bytes at k ≡ false
  unfolding is_named_cut
  cut-spent at k e = ap (λ (i : ℕ). is_named_cut n bytes at i) e

  abbrev rest : ℕ → ℕ → List Patch
  rest at k = if is_entry_missing n bytes at then free_up_to at (at + 4 * suc k) else []

  pub freed-goes : (at k : ℕ) → leads_below n bytes at ≡ true → named_patches n bytes at (suc k) ≡ named_patches n bytes (at + 4) k
  unfolding named_patches
  freed-goes at k e = λ j. if e j then named_patches n bytes (at + 4) k else rest at k

  pub freed-ends : (at k : ℕ) → leads_below n bytes at ≡ false → is_entry_missing n bytes at ≡ true → named_patches n bytes at (suc k) ≡ free_up_to at (at + 4 * suc k)
  unfolding named_patches
  freed-ends at k e f = (λ j. if e j then named_patches n bytes (at + 4) k else rest at k) ∙ (λ j. if f j then free_up_to at (at + 4 * suc k) else [])

  pub freed-stops : (at k : ℕ) → leads_below n bytes at ≡ false → is_entry_missing n bytes at ≡ false → named_patches n bytes at (suc k) ≡ []
  unfolding named_patches
  freed-stops at k e f = (λ j. if e j then named_patches n bytes (at + 4) k else rest at k) ∙ (λ j. if f j then free_up_to at (at + 4 * suc k) else [])

  pub freed-spent : (at k : ℕ) → k ≡ 0 → named_patches n bytes at k ≡ []
  unfolding named_patches
  freed-spent at k e = ap (λ (i : ℕ). named_patches n bytes at i) e

-- the entry behind one
next-entry : (at i : ℕ) → at + 4 * i + 4 ≡ at + 4 * (i + 1)
next-entry at i = omega arith

pub one-less : (i count : ℕ) → i < count → count - i ≡ suc (count - (i + 1))
one-less i count below = omega (arith, below)

module _ (n : ℕ) (bytes : List ℕ) (at i count : ℕ) (below : i < count) where
  pub named-more : (word : ℕ) (now new all : List ℕ) → leads_below n bytes (at + 4 * i) ≡ true → word_at bytes (at + 4 * i) ≡ word → new ≡ now ++ word ∷ []
      → now ++ named_from n bytes (at + 4 * i) (count - i) ≡ all → new ++ named_from n bytes (at + 4 * (i + 1)) (count - (i + 1)) ≡ all
  named-more word now new all e named new-is is =
      list-goes now new (named_from n bytes (at + 4 * i) (count - i)) (named_from n bytes (at + 4 * (i + 1)) (count - (i + 1))) all word
      (ap (λ (k : ℕ). named_from n bytes (at + 4 * i) k) (one-less i count below) ∙ named-goes n bytes (at + 4 * i) (count - (i + 1)) e
      ∙ (λ j. named j ∷ named_from n bytes (next-entry at i j) (count - (i + 1)))) new-is is

  pub cut-more : (all : Bool) → leads_below n bytes (at + 4 * i) ≡ true → is_named_cut n bytes (at + 4 * i) (count - i) ≡ all
      → is_named_cut n bytes (at + 4 * (i + 1)) (count - (i + 1)) ≡ all
  cut-more all e is =
      sym (ap (λ (k : ℕ). is_named_cut n bytes (at + 4 * i) k) (one-less i count below) ∙ cut-goes n bytes (at + 4 * i) (count - (i + 1)) e
      ∙ ap (λ (p : ℕ). is_named_cut n bytes p (count - (i + 1))) (next-entry at i)) ∙ is

  pub freed-more : (all : List Patch) → leads_below n bytes (at + 4 * i) ≡ true → named_patches n bytes (at + 4 * i) (count - i) ≡ all
      → named_patches n bytes (at + 4 * (i + 1)) (count - (i + 1)) ≡ all
  freed-more all e is =
      sym (ap (λ (k : ℕ). named_patches n bytes (at + 4 * i) k) (one-less i count below) ∙ freed-goes n bytes (at + 4 * i) (count - (i + 1)) e
      ∙ ap (λ (p : ℕ). named_patches n bytes p (count - (i + 1))) (next-entry at i)) ∙ is

  -- they end here
  pub cut-here : (r all : Bool) → leads_below n bytes (at + 4 * i) ≡ false → is_entry_missing n bytes (at + 4 * i) ≡ r → is_named_cut n bytes (at + 4 * i) (count - i) ≡ all → r ≡ all
  cut-here r all e f is =
      sym f ∙ sym (ap (λ (k : ℕ). is_named_cut n bytes (at + 4 * i) k) (one-less i count below) ∙ cut-ends n bytes (at + 4 * i) (count - (i + 1)) e) ∙ is

  pub freed-here : (upto : ℕ) (all : List Patch) → leads_below n bytes (at + 4 * i) ≡ false → is_entry_missing n bytes (at + 4 * i) ≡ true → upto ≡ at + 4 * count
      → named_patches n bytes (at + 4 * i) (count - i) ≡ all → free_up_to (at + 4 * i) upto ≡ all
  freed-here upto all e f upto-is is =
      ap (λ (p : ℕ). free_up_to (at + 4 * i) p) (let a : upto ≡ at + 4 * i + 4 * suc (count - (i + 1)) = omega (arith, below, upto-is) in a)
      ∙ sym (ap (λ (k : ℕ). named_patches n bytes (at + 4 * i) k) (one-less i count below) ∙ freed-ends n bytes (at + 4 * i) (count - (i + 1)) e f) ∙ is

  pub freed-not : (all : List Patch) → leads_below n bytes (at + 4 * i) ≡ false → is_entry_missing n bytes (at + 4 * i) ≡ false
      → named_patches n bytes (at + 4 * i) (count - i) ≡ all → [] ≡ all
  freed-not all e f is = sym (ap (λ (k : ℕ). named_patches n bytes (at + 4 * i) k) (one-less i count below) ∙ freed-stops n bytes (at + 4 * i) (count - (i + 1)) e f) ∙ is

-- what is added behind nothing new
pub same-then : (old now added all : List Patch) → now ≡ old → added ≡ all → now ++ added ≡ old ++ all
same-then old now added all e f = λ j. e j ++ f j

pub nothing-then : (old now all : List Patch) → now ≡ old → [] ≡ all → now ≡ old ++ all
nothing-then old now all e f = e ∙ sym (append-nil old) ∙ ap (λ (l : List Patch). old ++ l) f

-- ---- one DIFAT sector after the other

module _ (version : Version) (bytes : List ℕ) (n : ℕ) (ended : Bool) (at : ℕ) where
  abbrev names : ℕ → List ℕ
  names k = named_from n bytes (sector_start version (word_at bytes at)) (entries_in version)
      ++ listed_from version bytes n k (is_named_cut n bytes (sector_start version (word_at bytes at)) (entries_in version)) (link_place version (word_at bytes at))

  abbrev frees : ℕ → List Patch
  frees k = named_patches n bytes (sector_start version (word_at bytes at)) (entries_in version)
      ++ listed_patches version bytes n k (is_named_cut n bytes (sector_start version (word_at bytes at)) (entries_in version)) (link_place version (word_at bytes at))

  abbrev ends : List Patch
  ends = if not (has_word bytes at) || is_regular (word_at bytes at) then mark_at at (Some end_of_chain) else []

  pub listed-goes : (k : ℕ) → (not ended && leads_below n bytes at) ≡ true → listed_from version bytes n (suc k) ended at ≡ names k
  unfolding listed_from
  listed-goes k e = λ j. if e j then names k else []

  pub listed-ends : (k : ℕ) → (not ended && leads_below n bytes at) ≡ false → listed_from version bytes n (suc k) ended at ≡ []
  unfolding listed_from
  listed-ends k e = λ j. if e j then names k else []

  pub listed-spent : (k : ℕ) → k ≡ 0 → listed_from version bytes n k ended at ≡ []
  unfolding listed_from
  listed-spent k e = ap (λ (i : ℕ). listed_from version bytes n i ended at) e

  pub frees-go : (k : ℕ) → (not ended && leads_below n bytes at) ≡ true → listed_patches version bytes n (suc k) ended at ≡ frees k
  unfolding listed_patches
  frees-go k e = λ j. if e j then frees k else ends

  pub frees-end : (k : ℕ) → (not ended && leads_below n bytes at) ≡ false → (not (has_word bytes at) || is_regular (word_at bytes at)) ≡ true
      → listed_patches version bytes n (suc k) ended at ≡ mark_at at (Some end_of_chain)
  unfolding listed_patches
  frees-end k e f = (λ j. if e j then frees k else ends) ∙ (λ j. if f j then mark_at at (Some end_of_chain) else [])

  pub frees-stop : (k : ℕ) → (not ended && leads_below n bytes at) ≡ false → (not (has_word bytes at) || is_regular (word_at bytes at)) ≡ false
      → listed_patches version bytes n (suc k) ended at ≡ []
  unfolding listed_patches
  frees-stop k e f = (λ j. if e j then frees k else ends) ∙ (λ j. if f j then mark_at at (Some end_of_chain) else [])

  pub frees-spent : (k : ℕ) → k ≡ 0 → listed_patches version bytes n k ended at ≡ []
  unfolding listed_patches
  frees-spent k e = ap (λ (i : ℕ). listed_patches version bytes n i ended at) e

  -- there is none more, and its number becomes a mark
  pub one-marked : (fat : List ℕ) (before after : List Patch) → (not ended && leads_below n bytes at) ≡ false → (not (has_word bytes at) || is_regular (word_at bytes at)) ≡ true
      → after ≡ before ++ mark_at at (Some end_of_chain) → ListsOne version bytes n ended at fat fat before after None
  one-marked fat before after e f is = record {
    named = λ k. ap (λ (l : List ℕ). fat ++ l) (sym (listed-ends k e));
    patched = λ k. append-nil after ∙ is ∙ ap (λ (l : List Patch). before ++ l) (sym (frees-end k e f));
  }

  -- or stays
  pub one-ended : (fat : List ℕ) (before : List Patch) → (not ended && leads_below n bytes at) ≡ false → (not (has_word bytes at) || is_regular (word_at bytes at)) ≡ false
      → ListsOne version bytes n ended at fat fat before before None
  one-ended fat before e f = record {
    named = λ k. ap (λ (l : List ℕ). fat ++ l) (sym (listed-ends k e));
    patched = λ k. ap (λ (l : List Patch). before ++ l) (sym (frees-stop k e f));
  }

  pub one-listed : (s from count link : ℕ) (cut : Bool) (old new : List ℕ) (before after : List Patch) → (not ended && leads_below n bytes at) ≡ true → word_at bytes at ≡ s
      → from ≡ sector_start version s → count ≡ entries_in version → link ≡ link_place version s → new ≡ old ++ named_from n bytes from count
      → after ≡ before ++ named_patches n bytes from count → cut ≡ is_named_cut n bytes from count → ListsOne version bytes n ended at old new before after (Some (link, cut))
  one-listed s from count link cut old new before after e named from-is count-is link-is new-is after-is cut-is =
      let place : from ≡ sector_start version (word_at bytes at) = from-is ∙ ap (λ (w : ℕ). sector_start version w) (sym named) in
      let behind : link ≡ link_place version (word_at bytes at) = link-is ∙ ap (λ (w : ℕ). link_place version w) (sym named) in
      let is-cut : cut ≡ is_named_cut n bytes (sector_start version (word_at bytes at)) (entries_in version) = cut-is ∙ (λ j. is_named_cut n bytes (place j) (count-is j)) in
      record {
        named = λ k.
            ap (λ (l : List ℕ). l ++ listed_from version bytes n k cut link) new-is ∙ append_assoc old (named_from n bytes from count) (listed_from version bytes n k cut link)
            ∙ (λ j. old ++ (named_from n bytes (place j) (count-is j) ++ listed_from version bytes n k (is-cut j) (behind j))) ∙ ap (λ (l : List ℕ). old ++ l) (sym (listed-goes k e));
        patched = λ k.
            ap (λ (l : List Patch). l ++ listed_patches version bytes n k cut link) after-is ∙ append_assoc before (named_patches n bytes from count) (listed_patches version bytes n k cut link)
            ∙ (λ j. before ++ (named_patches n bytes (place j) (count-is j) ++ listed_patches version bytes n k (is-cut j) (behind j))) ∙ ap (λ (l : List Patch). before ++ l) (sym (frees-go k e));
      }

-- ---- the walk

-- a sector is one of the first n, or not
pub listed-is : (n : ℕ) (bytes : List ℕ) (at word : ℕ) (ended r b : Bool) → has_word bytes at ≡ true → word_at bytes at ≡ word → is_regular word ≡ true
    → r ≡ (not ended && nat_lt word n) → r ≡ b → (not ended && leads_below n bytes at) ≡ b
listed-is n bytes at word ended r b has named regular is e =
    (λ j. not ended && (has j && ((ap is_regular named ∙ regular) j && nat_lt (named j) n))) ∙ sym is ∙ e

module _ (version : Version) (bytes : List ℕ) (n m turn : ℕ) (below : turn < m) (ended : Bool) (at : ℕ) (old new : List ℕ) (before after : List Patch) (next o : Option (ℕ × Bool))
    (is : next ≡ o) (one : ListsOne version bytes n ended at old new before after next) where
  pub listed-more : (all : List ℕ) → old ++ listed_from version bytes n (m - turn) ended at ≡ all → new ++ listed_behind version bytes n (m - (turn + 1)) o ≡ all
  listed-more all rest =
      ap (λ (x : Option (ℕ × Bool)). new ++ listed_behind version bytes n (m - (turn + 1)) x) (sym is) ∙ one.named (m - (turn + 1))
      ∙ ap (λ (k : ℕ). old ++ listed_from version bytes n k ended at) (sym (one-less turn m below)) ∙ rest

  pub frees-more : (all : List Patch) → before ++ listed_patches version bytes n (m - turn) ended at ≡ all → after ++ patched_behind version bytes n (m - (turn + 1)) o ≡ all
  frees-more all rest =
      ap (λ (x : Option (ℕ × Bool)). after ++ patched_behind version bytes n (m - (turn + 1)) x) (sym is) ∙ one.patched (m - (turn + 1))
      ∙ ap (λ (k : ℕ). before ++ listed_patches version bytes n k ended at) (sym (one-less turn m below)) ∙ rest
