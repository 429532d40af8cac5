-- Where a table's sector ends that the end of the file cuts.
use Rattle.std.proofs.Common.{◌≡◌, ◌<◌, ◌≤◌, ℕ, zero, suc, ◌+◌, ◌-◌, ◌%◌, List, [], ◌∷◌, ◌++◌, Bool, true, false, length, drop, get_or, max, inl, inr, refl, sym, ◌∙◌, ap, subst, arith, append-nil, drop-cons, add-one, length-append}
use Rattle.std.specs.Prelude.{◌⊎◌, ◌&&◌, ◌==◌, nat_le, nat_lt, if◌then◌else◌}
use Rattle.std.specs.List.{Contains}
use Rattle.std.proofs.lemmas.Bool.{and_from, and_left, and_right, leb-true, leb-false, ltb-true, ne_eqb}
use Rattle.std.proofs.lemmas.List.{drop_all}
use Rattle.cfb_format.specs.declared.version.Version.{Version}
use Rattle.cfb_format.specs.Bytes.{word_at, sector_len, sector_start, is_regular}
use Rattle.cfb_mending.specs.declared.patches.Patch.{Patch}
use Rattle.cfb_mending.specs.Missing.{cut_end, cut_patches, difat_from, first_difat_link, has_word, is_cut, link_place}
use Rattle.cfb_mending.specs.Tables.{IsDifatLink, IsDifatSector, IsPadded, IsTableSector}
use Rattle.cfb_mending.proofs.InTables.{difat-next, difat-first}

-- ---- the end of the file

pub cut-more : (version : Version) (len : ℕ) (sectors : List ℕ) (i d : ℕ) → i < length sectors → is_cut version len (get_or sectors i d) ≡ false
    → cut_end version len (drop i sectors) ≡ cut_end version len (drop (i + 1) sectors)
unfolding cut_end
cut-more version len sectors i d below e =
    let s = get_or sectors i d in
    let cut : drop i sectors ≡ s ∷ drop (i + 1) sectors = drop-cons sectors i d below ∙ ap (λ (n : ℕ). s ∷ drop n sectors) (sym (add-one i)) in
    ap (λ (l : List ℕ). cut_end version len l) cut ∙ (λ j. if e j then sector_start version s + sector_len version else cut_end version len (drop (i + 1) sectors))

pub cut-here : (version : Version) (len : ℕ) (sectors : List ℕ) (i d : ℕ) → i < length sectors → is_cut version len (get_or sectors i d) ≡ true
    → cut_end version len (drop i sectors) ≡ sector_start version (get_or sectors i d) + sector_len version
unfolding cut_end
cut-here version len sectors i d below e =
    let s = get_or sectors i d in
    let cut : drop i sectors ≡ s ∷ drop (i + 1) sectors = drop-cons sectors i d below ∙ ap (λ (n : ℕ). s ∷ drop n sectors) (sym (add-one i)) in
    ap (λ (l : List ℕ). cut_end version len l) cut ∙ (λ j. if e j then sector_start version s + sector_len version else cut_end version len (drop (i + 1) sectors))

pub cut-none : (version : Version) (len : ℕ) (sectors : List ℕ) (i : ℕ) → length sectors ≤ i → cut_end version len (drop i sectors) ≡ 0
unfolding cut_end
cut-none version len sectors i past = ap (λ (l : List ℕ). cut_end version len l) (drop_all i sectors past)

if-yes : (b : Bool) (x y : ℕ) → b ≡ true → (if b then x else y) ≡ x
if-yes b x y e = λ j. if e j then x else y

if-no : (b : Bool) (x y : ℕ) → b ≡ false → (if b then x else y) ≡ y
if-no b x y e = λ j. if e j then x else y

-- which of them it is
pub record IsCutIn (version : Version) (len : ℕ) (sectors : List ℕ) (upto : ℕ) : Type 0 where
  pub sector : ℕ
  pub among : Contains sectors sector
  pub begun : sector_start version sector < len
  pub cut : len < sector_start version sector + sector_len version
  pub ends : upto ≡ sector_start version sector + sector_len version

both-true : (a b : Bool) → (a && b) ≡ true → (a ≡ true) × (b ≡ true)
both-true true b e = (refl, e)
both-true false b e = absurd (let w : false ≡ true = e in cc)

pub cut-among : (version : Version) (len : ℕ) (sectors : List ℕ) → (cut_end version len sectors ≡ 0) ⊎ IsCutIn version len sectors (cut_end version len sectors)
unfolding cut_end
cut-among version len [] = inl refl
cut-among version len (s ∷ rest) = which (cut-among version len rest) (is_cut version len s) refl
  where
    later : (cut_end version len rest ≡ 0) ⊎ IsCutIn version len rest (cut_end version len rest) → is_cut version len s ≡ false
        → (cut_end version len (s ∷ rest) ≡ 0) ⊎ IsCutIn version len (s ∷ rest) (cut_end version len (s ∷ rest))
    later (inl e) off = inl ((λ j. if off j then sector_start version s + sector_len version else cut_end version len rest) ∙ e)
    later (inr c) off = inr (record {
      sector = c.sector;
      among = (suc c.among.0, omega (arith, c.among.1), c.among.2);
      begun = c.begun;
      cut = c.cut;
      ends = (λ j. if off j then sector_start version s + sector_len version else cut_end version len rest) ∙ c.ends;
    })

    which : (cut_end version len rest ≡ 0) ⊎ IsCutIn version len rest (cut_end version len rest) → (b : Bool) → is_cut version len s ≡ b → (cut_end version len (s ∷ rest) ≡ 0) ⊎ IsCutIn version len (s ∷ rest) (cut_end version len (s ∷ rest))
    which behind true hit =
        let parts = both-true (nat_lt (sector_start version s) len) (nat_lt len (sector_start version s + sector_len version)) hit in
        inr (record {
          sector = s;
          among = (0, omega arith, refl);
          begun = ltb-true (sector_start version s) len parts.0;
          cut = ltb-true len (sector_start version s + sector_len version) parts.1;
          ends = λ j. if hit j then sector_start version s + sector_len version else cut_end version len rest;
        })
    which behind false off = later behind off

-- ---- the DIFAT

nothing : (s : ℕ) → Contains [] s → ⊥
nothing s (k, below, is) = let l : k < 0 = below in omega (arith, l)

module _ (version : Version) (bytes : List ℕ) where
  pub difat-goes : (k at : ℕ) → (has_word bytes at && is_regular (word_at bytes at)) ≡ true
      → difat_from version bytes (suc k) at ≡ word_at bytes at ∷ difat_from version bytes k (link_place version (word_at bytes at))
  unfolding difat_from
  difat-goes k at e = λ j. if e j then word_at bytes at ∷ difat_from version bytes k (link_place version (word_at bytes at)) else []

  pub difat-ends : (k at : ℕ) → (has_word bytes at && is_regular (word_at bytes at)) ≡ false → difat_from version bytes k at ≡ []
  unfolding difat_from
  difat-ends zero at e = refl
  difat-ends (suc k) at e = λ j. if e j then word_at bytes at ∷ difat_from version bytes k (link_place version (word_at bytes at)) else []

  pub difat-spent : (k at : ℕ) → k ≡ 0 → difat_from version bytes k at ≡ []
  unfolding difat_from
  difat-spent k at e = ap (λ (i : ℕ). difat_from version bytes i at) e

  -- these are sectors of the DIFAT
  pub difat-sectors : (k at : ℕ) → IsDifatLink version bytes at → (s : ℕ) → Contains (difat_from version bytes k at) s → IsDifatSector version bytes s
  difat-sectors zero at link s there = absurd (nothing s (subst (λ (x : List ℕ). Contains x s) (difat-spent 0 at refl) there))
  difat-sectors (suc k) at link s there = which (λ at' link'. difat-sectors k at' link' s) (has_word bytes at && is_regular (word_at bytes at)) refl
    where
      of-list : (l : List ℕ) → difat_from version bytes (suc k) at ≡ l → Contains l s
      of-list l e = subst (λ (x : List ℕ). Contains x s) e there

      in-cons : (w : ℕ) (l : List ℕ) → Contains (w ∷ l) s → IsDifatSector version bytes w → (Contains l s → IsDifatSector version bytes s) → IsDifatSector version bytes s
      in-cons w l (zero, below, is) first later = subst (λ (x : ℕ). IsDifatSector version bytes x) is first
      in-cons w l (suc i, below, is) first later = later (i, omega (arith, below), is)

      which : ((at' : ℕ) → IsDifatLink version bytes at' → Contains (difat_from version bytes k at') s → IsDifatSector version bytes s) → (b : Bool)
          → (has_word bytes at && is_regular (word_at bytes at)) ≡ b → IsDifatSector version bytes s
      which later false e = absurd (nothing s (of-list [] (difat-ends (suc k) at e)))
      which later true e =
          let regular : is_regular (word_at bytes at) ≡ true = (both-true (has_word bytes at) (is_regular (word_at bytes at)) e).1 in
          in-cons (word_at bytes at) (difat_from version bytes k (link_place version (word_at bytes at)))
          (of-list (word_at bytes at ∷ difat_from version bytes k (link_place version (word_at bytes at))) (difat-goes k at e))
          (record { at = at; link = link; named = refl; regular = regular })
          (later (link_place version (word_at bytes at)) (difat-next version bytes at (word_at bytes at) link refl regular))

module _ (version : Version) (bytes : List ℕ) (len : ℕ) where
  -- the walk ends here
  pub difat-missing : (k at all : ℕ) → has_word bytes at ≡ false → cut_end version len (difat_from version bytes k at) ≡ all → 0 ≡ all
  unfolding cut_end
  difat-missing k at all off is = sym (ap (λ (l : List ℕ). cut_end version len l) (difat-ends version bytes k at (and_left (has_word bytes at) (is_regular (word_at bytes at)) off))) ∙ is

  pub difat-mark : (k at word all : ℕ) → has_word bytes at ≡ true → word_at bytes at ≡ word → is_regular word ≡ false → cut_end version len (difat_from version bytes k at) ≡ all → 0 ≡ all
  unfolding cut_end
  difat-mark k at word all has named e is =
      sym (ap (λ (l : List ℕ). cut_end version len l) (difat-ends version bytes k at (and_right (has_word bytes at) (is_regular (word_at bytes at)) (ap is_regular named ∙ e)))) ∙ is

  pub difat-unspent : (k at all : ℕ) → k ≡ 0 → cut_end version len (difat_from version bytes k at) ≡ all → 0 ≡ all
  unfolding cut_end
  difat-unspent k at all e is = sym (ap (λ (l : List ℕ). cut_end version len l) (difat-spent version bytes k at e)) ∙ is

  difat-here : (m turn at word : ℕ) → turn < m → has_word bytes at ≡ true → word_at bytes at ≡ word → is_regular word ≡ true
      → difat_from version bytes (m - turn) at ≡ word ∷ difat_from version bytes (m - (turn + 1)) (link_place version word)
  difat-here m turn at word below has named e =
      ap (λ (k : ℕ). difat_from version bytes k at) (let one : m - turn ≡ suc (m - (turn + 1)) = omega (arith, below) in one)
      ∙ difat-goes version bytes (m - (turn + 1)) at (and_from (has_word bytes at) (is_regular (word_at bytes at)) has (ap is_regular named ∙ e))
      ∙ (λ j. named j ∷ difat_from version bytes (m - (turn + 1)) (link_place version (named j)))

  pub difat-uncut : (m turn at word next all : ℕ) → turn < m → has_word bytes at ≡ true → word_at bytes at ≡ word → is_regular word ≡ true → is_cut version len word ≡ false
      → next ≡ link_place version word → cut_end version len (difat_from version bytes (m - turn) at) ≡ all → cut_end version len (difat_from version bytes (m - (turn + 1)) next) ≡ all
  unfolding cut_end
  difat-uncut m turn at word next all below has named e off next-is is =
      ap (λ (n : ℕ). cut_end version len (difat_from version bytes (m - (turn + 1)) n)) next-is
      ∙ sym (if-no (is_cut version len word) (sector_start version word + sector_len version) (cut_end version len (difat_from version bytes (m - (turn + 1)) (link_place version word))) off)
      ∙ sym (ap (λ (l : List ℕ). cut_end version len l) (difat-here m turn at word below has named e)) ∙ is

  pub difat-cut : (m turn at word upto all : ℕ) → turn < m → has_word bytes at ≡ true → word_at bytes at ≡ word → is_regular word ≡ true → is_cut version len word ≡ true
      → upto ≡ sector_start version word + sector_len version → cut_end version len (difat_from version bytes (m - turn) at) ≡ all → upto ≡ all
  unfolding cut_end
  difat-cut m turn at word upto all below has named e hit upto-is is =
      upto-is
      ∙ sym (if-yes (is_cut version len word) (sector_start version word + sector_len version) (cut_end version len (difat_from version bytes (m - (turn + 1)) (link_place version word))) hit)
      ∙ sym (ap (λ (l : List ℕ). cut_end version len l) (difat-here m turn at word below has named e)) ∙ is

-- ---- zeros behind the last whole entry

pub cut-in : (version : Version) (len : ℕ) (sectors : List ℕ) (upto : ℕ) → upto ≡ cut_end version len sectors → (upto ≡ 0 → ⊥) → IsCutIn version len sectors upto
cut-in version len sectors upto is some = of (cut-among version len sectors)
  where
    of : (cut_end version len sectors ≡ 0) ⊎ IsCutIn version len sectors (cut_end version len sectors) → IsCutIn version len sectors upto
    of (inl e) = absurd (some (is ∙ e))
    of (inr c) = subst (λ (n : ℕ). IsCutIn version len sectors n) (sym is) c

pub blank-none : (old : List Patch) (len upto : ℕ) → upto ≡ 0 → old ≡ old ++ cut_patches len upto
blank-none old len upto e = sym (append-nil old) ∙ sym (ap (λ (n : ℕ). old ++ cut_patches len n) e)

if-there : (b : Bool) (p : Patch) → b ≡ false → (if b then [] else p ∷ []) ≡ p ∷ []
if-there b p e = λ j. if e j then [] else p ∷ []

pub blank-some : (len upto upto' : ℕ) → upto ≡ upto' → (upto ≡ 0 → ⊥) → record { at = len - len % 128; «end» = upto; word = 0 } ∷ [] ≡ cut_patches len upto'
blank-some len upto upto' is some =
    sym (if-there (upto == 0) (record { at = len - len % 128; «end» = upto; word = 0 }) (ne_eqb upto 0 some)) ∙ ap (λ (n : ℕ). cut_patches len n) is

-- what was added to a list
pub more-by : (old new added : List Patch) (before after by : ℕ) → before ≡ length old → after ≡ length new → by ≡ after - before → new ≡ old ++ added → by ≡ length added
more-by old new added before after by b a d is = omega (arith, b, a, d, ap (λ (l : List Patch). length l) is, length-append old added)

-- ---- up to where the file is read

cut-padded : (version : Version) (bytes fat sectors : List ℕ) → ((s : ℕ) → Contains sectors s → IsTableSector version bytes fat s)
    → (cut_end version (length bytes) sectors ≡ 0) ⊎ IsPadded version bytes fat (cut_end version (length bytes) sectors)
cut-padded version bytes fat sectors tables = of (cut-among version (length bytes) sectors)
  where
    of : (cut_end version (length bytes) sectors ≡ 0) ⊎ IsCutIn version (length bytes) sectors (cut_end version (length bytes) sectors)
        → (cut_end version (length bytes) sectors ≡ 0) ⊎ IsPadded version bytes fat (cut_end version (length bytes) sectors)
    of (inl e) = inl e
    of (inr c) = inr (record { sector = c.sector; table = tables c.sector c.among; begun = c.begun; cut = omega (arith, c.cut, c.ends); ends = c.ends })

max-padded : (version : Version) (bytes fat : List ℕ) (a b : ℕ) → (a ≡ 0) ⊎ IsPadded version bytes fat a → (b ≡ 0) ⊎ IsPadded version bytes fat b
    → (max a b ≡ 0) ⊎ IsPadded version bytes fat (max a b)
max-padded version bytes fat a b p q = of (nat_le a b) refl
  where
    of : (t : Bool) → nat_le a b ≡ t → (max a b ≡ 0) ⊎ IsPadded version bytes fat (max a b)
    of true e = subst (λ (n : ℕ). (n ≡ 0) ⊎ IsPadded version bytes fat n) (let l : a ≤ b = leb-true a b e in let m : b ≡ max a b = omega (arith, l) in m) q
    of false e = subst (λ (n : ℕ). (n ≡ 0) ⊎ IsPadded version bytes fat n) (let l : b < a = leb-false a b e in let m : a ≡ max a b = omega (arith, l) in m) p

pub least-padded : (version : Version) (bytes fat directory minifat : List ℕ) (k least : ℕ) → ((s : ℕ) → Contains directory s → IsTableSector version bytes fat s)
    → ((s : ℕ) → Contains minifat s → IsTableSector version bytes fat s)
    → least ≡ max (max (max (cut_end version (length bytes) fat) (cut_end version (length bytes) directory)) (cut_end version (length bytes) minifat))
    (cut_end version (length bytes) (difat_from version bytes k first_difat_link))
    → (least ≡ 0) ⊎ IsPadded version bytes fat least
least-padded version bytes fat directory minifat k least d m is =
    subst (λ (n : ℕ). (n ≡ 0) ⊎ IsPadded version bytes fat n) (sym is)
    (max-padded version bytes fat _ _
    (max-padded version bytes fat _ _ (max-padded version bytes fat _ _ (cut-padded version bytes fat fat (λ s c. inl c)) (cut-padded version bytes fat directory d)) (cut-padded version bytes fat minifat m))
    (cut-padded version bytes fat (difat_from version bytes k first_difat_link) (λ s c. inr (inl (difat-sectors version bytes k first_difat_link (difat-first version bytes) s c)))))
