-- Counts of words and of mini sectors, and lists without repetition.
use Rattle.std.proofs.Common.{◌≡◌, ◌≢◌, ◌<◌, ◌≤◌, ◌*◌, ◌+◌, ◌-◌, ◌/◌, min, inl, inr, ℕ, List, [], ◌∷◌, ◌++◌, Bool, true, false, length, set, take, get_or, refl, sym, ◌∙◌, ap, subst, arith, add-one}
use Rattle.std.proofs.Math.Seq.{take-suc}
use Rattle.std.specs.Prelude.{Contains, IsSome, nat_eq, slice_index, Option, Some, None, unwrap_or, if◌then◌else◌, ◌==◌, ◌&&◌, not}
use Rattle.std.specs.List.{IsDistinct}
use Rattle.std.proofs.lemmas.Bool.{cases_eq, eqb-true}
use Rattle.std.proofs.lemmas.List.{get_or-set_same, get_or-set_other, get_or-take, get_or_default, length-set, length-take, take_all}
use Rattle.std.proofs.lemmas.List.Elements.{Contains-append_cases, Contains-append_left, Contains-append_right}
use Rattle.cfb_format.specs.declared.version.Version.{Version}
use Rattle.cfb_format.specs.declared.version.Version.TheVariants.{V3, V4}
use Rattle.cfb_format.specs.Bytes.{end_of_chain, sector_count, sector_len, words_per_sector}
use Rattle.cfb_format.specs.Chain.{Follows, chain_from}
use Rattle.cfb_format.specs.Content.{mini_stream_chain}
use Rattle.cfb_format.specs.Names.{Cases}
use Rattle.cfb_format.specs.Reading.{HasLength, Reading, Reads, root_entry}
use Rattle.cfb_format.specs.Soundness.{mini_stream_sectors}
use Rattle.cfb_format.proofs.Chains.{chain_from-IsChain, Follows-length}
use Rattle.cfb_format.proofs.Members.{Contains-nil, Contains-one, Contains-here, distinct-push, none_distinct}
use Rattle.cfb_soundness.specs.Marks.{mark_at}
use Rattle.cfb_soundness.specs.declared.parts.Parts.{Parts}
use Rattle.cfb_soundness.specs.Parts.{parts_reading}
use Rattle.cfb_soundness.proofs.Decision.{known as known-of}
use Rattle.cfb_soundness.proofs.MarkLemmas.{true_false}
use Rattle.cfb_flaws.specs.declared.flaw.Flaw.{Flaw}
use Rattle.cfb_flaws.specs.declared.flaw.Flaw.TheVariants.{ListedTwice}
use Rattle.cfb_flaws.specs.Claims.{chain_of}
use Rattle.cfb_flaws.specs.Flaws.{Holds, StandsTwice, on_sectors}
use Rattle.cfb_flaws.specs.Owners.{AreKept}
use Rattle.cfb_flaws.specs.Telling.{Told}
use Rattle.cfb_flaws.proofs.Assembling.{same-parts, some-entry}
use Rattle.cfb_flaws.proofs.Streaming.{some-from}
use Rattle.cfb_flaws.proofs.Tellings.{told-one, told-then, told-map}

-- ---- counts

abbrev pub most_words : ℕ
most_words = 0xFFFF_FFFF_FFFF_FFFF

pub count-few : (v : Version) (bytes : List ℕ) → HasLength v bytes → sector_count v bytes ≤ 0xFFFF_FFFB
count-few V3 bytes h = let m = h.most in omega (arith, m)
count-few V4 bytes h = let m = h.most in omega (arith, m)

-- a product that a word may not hold, beside a count that it holds
pub enough-words : (v : Version) (n per words count : ℕ) → per ≡ words_per_sector v → words ≡ min (n * per) most_words → count ≤ words → count ≤ n * words_per_sector v
enough-words v n per words count e w le = go (w ∙ ap (λ (k : ℕ). min (n * k) most_words) e)
  where
    go : words ≡ min (n * words_per_sector v) most_words → count ≤ n * words_per_sector v
    go w = omega (arith, w, le)

pub few-words : (v : Version) (n per words count : ℕ) → per ≡ words_per_sector v → words ≡ min (n * per) most_words → words < count → count ≤ most_words
    → words ≡ n * words_per_sector v
few-words v n per words count e w lt few = go (w ∙ ap (λ (k : ℕ). min (n * k) most_words) e)
  where
    go : words ≡ min (n * words_per_sector v) most_words → words ≡ n * words_per_sector v
    go w = omega (arith, w, lt, few)

pub enough-room : (v : Version) (n per room count : ℕ) → per ≡ sector_len v / 64 → room ≡ min (n * per) most_words → count ≤ room → count * 64 ≤ n * sector_len v
enough-room V3 n per room count e w le = let f : room ≡ min (n * 8) most_words = w ∙ ap (λ (k : ℕ). min (n * k) most_words) e in omega (arith, f, le)
enough-room V4 n per room count e w le = let f : room ≡ min (n * 64) most_words = w ∙ ap (λ (k : ℕ). min (n * k) most_words) e in omega (arith, f, le)

pub little-room : (v : Version) (n per room count : ℕ) → per ≡ sector_len v / 64 → room ≡ min (n * per) most_words → room < count → count ≤ most_words
    → room * 64 ≡ n * sector_len v
little-room V3 n per room count e w lt few = let f : room ≡ min (n * 8) most_words = w ∙ ap (λ (k : ℕ). min (n * k) most_words) e in omega (arith, f, lt, few)
little-room V4 n per room count e w lt few = let f : room ≡ min (n * 64) most_words = w ∙ ap (λ (k : ℕ). min (n * k) most_words) e in omega (arith, f, lt, few)

-- ---- the mini stream's chain

module _ {A : Type 0} (parts : Parts A) (cases : Cases) (bytes : List ℕ) (r : Reading) (reads : Reads cases bytes r) (are : AreKept parts bytes r) (start : ℕ) where
  pub root-from : (0 < length parts.entries.now → mini_stream_chain (parts_reading parts) ≡ chain_from parts.fat.now start) → mini_stream_chain r ≡ chain_from r.fat start
  root-from h =
      sym (ap mini_stream_chain (same-parts parts cases bytes r reads are))
      ∙ h (some-entry parts cases bytes r reads are) ∙ ap (λ (z : List ℕ). chain_from z start) are.fat

  pub root-start : start ≡ (root_entry (parts_reading parts)).start_sector → start ≡ (root_entry r).start_sector
  root-start e = e ∙ ap (λ (q : Reading). (root_entry q).start_sector) (same-parts parts cases bytes r reads are)

  -- the mini stream's sectors are the members of its chain
  pub root-some : (list : List ℕ) → mini_stream_chain r ≡ chain_from r.fat start → Follows parts.fat.now start list → list ≡ mini_stream_sectors r
  root-some list from f =
      let g : Follows r.fat start list = subst (λ (z : List ℕ). Follows z start list) are.fat f in
      sym (ap (λ (o : Option (List ℕ)). unwrap_or o []) (from ∙ some-from r.fat start list g))

  pub root-none : mini_stream_chain r ≡ chain_from r.fat start → ((list : List ℕ) → Follows parts.fat.now start list → length list ≤ length parts.fat.now → ⊥) → [] ≡ mini_stream_sectors r
  root-none from none = go (chain_from r.fat start) refl
    where
      go : (o : Option (List ℕ)) → chain_from r.fat start ≡ o → [] ≡ mini_stream_sectors r
      go None e = sym (ap (λ (o : Option (List ℕ)). unwrap_or o []) (from ∙ e))
      go (Some list) e =
          let f = ((chain_from-IsChain r.fat start list).0 e).follows in
          let g : Follows parts.fat.now start list = subst (λ (z : List ℕ). Follows z start list) (sym are.fat) f in
          absurd (none list g (Follows-length parts.fat.now start list g))

pub some-at-end : (table : List ℕ) (start : ℕ) (o : Option (List ℕ)) → o ≡ chain_from table start → start ≡ end_of_chain → IsSome o
some-at-end table start o is e =
    let f : Follows table start [] = e in
    subst IsSome (sym (is ∙ some-from table start [] f)) refl

pub some-where-any : (o : Option (List ℕ)) (list : List ℕ) → list ≡ unwrap_or o [] → (length list == 0) ≡ false → IsSome o
some-where-any None list is e = let f : true ≡ false = sym (ap (λ (z : List ℕ). length z == 0) is) ∙ e in cc
some-where-any (Some xs) list is e = refl

pub none-empty : (list other : List ℕ) → list ≡ other → (length list == 0) ≡ true → other ≡ []
none-empty [] other is e = sym is
none-empty (x ∷ list) other is e = let n = eqb-true (length (x ∷ list)) 0 e in absurd (omega (arith, n))

-- ---- sectors that are listed

-- the marks are those of these numbers
pub record AreListed (done : List ℕ) (marks : List Bool) (size : ℕ) : Type 0 where
  pub len : length marks ≡ size
  pub marked : (i : ℕ) → Contains done i → mark_at marks i ≡ true
  pub only : (i : ℕ) → mark_at marks i ≡ true → Contains done i

pub listed-more : (list : List ℕ) (k : ℕ) (marks : List Bool) (size : ℕ) → k < length list → get_or list k 0 < length marks → AreListed (take k list) marks size
    → AreListed (take (k + 1) list) (set marks (get_or list k 0) true) size
listed-more list k marks size lt below l =
    let x = get_or list k 0 in
    let more : take (k + 1) list ≡ take k list ++ x ∷ [] = ap (λ (n : ℕ). take n list) (add-one k) ∙ take-suc list k 0 lt in
    subst (λ (z : List ℕ). AreListed z (set marks x true) size) (sym more) record {
      len = length-set marks x true ∙ l.len;
      marked = λ i m. elim (cases_eq i x) [
        | inl at ↦ ap (mark_at (set marks x true)) at ∙ get_or-set_same marks x true false below
        | inr ne ↦ get_or-set_other marks x i true false ne ∙ l.marked i (elim (Contains-append_cases (take k list) (x ∷ []) i m) [
          | inl a ↦ a
          | inr b ↦ absurd (ne (sym (Contains-one x i b)))
        ])
      ];
      only = λ i e. elim (cases_eq i x) [
        | inl at ↦ subst (λ (j : ℕ). Contains (take k list ++ x ∷ []) j) (sym at) (Contains-append_right (take k list) (x ∷ []) x (Contains-here x []))
        | inr ne ↦ Contains-append_left (take k list) (x ∷ []) i (l.only i (sym (get_or-set_other marks x i true false ne) ∙ e))
      ];
    }

stands-twice : (list : List ℕ) (k : ℕ) → k < length list → Contains (take k list) (get_or list k 0) → StandsTwice list (get_or list k 0)
stands-twice list k lt (j, below, is) =
    let n = length-take k list in
    let less : j < k = omega (arith, below, n) in
    (j, k, less, lt, get_or_default list j 0 (get_or list k 0) (omega (arith, less, lt)) ∙ sym (get_or-take k list j (get_or list k 0) less) ∙ is, refl)

pub once-none : (list : List ℕ) → IsDistinct nat_eq (take 0 list)
once-none list = none_distinct

module _ (bytes : List ℕ) (r : Reading) (list : List ℕ) (same : list ≡ r.fat_sectors) (k : ℕ) (lt : k < length list) (marks : List Bool) (size : ℕ) (listed : AreListed (take k list) marks size)
    (xs ys zs : List Flaw) (told : Told on_sectors (IsDistinct nat_eq (take k list)) bytes r xs ys) where
  pub listed-again : mark_at marks (get_or list k 0) ≡ true → zs ≡ ys ++ ListedTwice (get_or list k 0) ∷ [] → Told on_sectors (IsDistinct nat_eq (take (k + 1) list)) bytes r xs zs
  listed-again e is =
      let d : Type 0 = IsDistinct nat_eq (take (k + 1) list) in
      let twice : StandsTwice r.fat_sectors (get_or list k 0) =
      subst (λ (z : List ℕ). StandsTwice z (get_or list k 0)) same (stands-twice list k lt (listed.only (get_or list k 0) e)) in
      told-then bytes r on_sectors (IsDistinct nat_eq (take k list)) d d xs ys zs (λ _a b. b) told
      (subst (λ (z : List Flaw). Told on_sectors d bytes r ys z) (sym is) (told-one bytes r d ys (ListedTwice (get_or list k 0)) twice))

  pub listed-first : mark_at marks (get_or list k 0) ≡ false → zs ≡ ys → Told on_sectors (IsDistinct nat_eq (take (k + 1) list)) bytes r xs zs
  listed-first e is =
      let x = get_or list k 0 in
      let more : take (k + 1) list ≡ take k list ++ x ∷ [] = ap (λ (n : ℕ). take n list) (add-one k) ∙ take-suc list k 0 lt in
      subst (λ (z : List Flaw). Told on_sectors (IsDistinct nat_eq (take (k + 1) list)) bytes r xs z) (sym is)
      (told-map bytes r on_sectors (IsDistinct nat_eq (take k list)) (IsDistinct nat_eq (take (k + 1) list)) xs ys
      (λ d. subst (IsDistinct nat_eq) (sym more) (distinct-push (take k list) x d (λ m. true_false (mark_at marks x) (listed.marked x m) e))) told)

  pub listed-next : (mark_at marks (get_or list k 0) ≡ true → zs ≡ ys ++ ListedTwice (get_or list k 0) ∷ []) → (mark_at marks (get_or list k 0) ≡ false → zs ≡ ys)
      → Told on_sectors (IsDistinct nat_eq (take (k + 1) list)) bytes r xs zs
  listed-next again once = go (mark_at marks (get_or list k 0)) refl
    where
      go : (b : Bool) → mark_at marks (get_or list k 0) ≡ b → Told on_sectors (IsDistinct nat_eq (take (k + 1) list)) bytes r xs zs
      go true e = listed-again e (again e)
      go false e = listed-first e (once e)
