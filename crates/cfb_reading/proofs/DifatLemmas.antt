-- The DIFAT sectors as they are followed, one more at a time.
use Rattle.std.proofs.Common.{◌≡◌, ℕ, ◌+◌, ◌*◌, ◌<◌, ◌≤◌, inl, inr, List, [], ◌∷◌, ◌++◌, Bool, true, false, length, set, refl, sym, ◌∙◌, ap, subst, arith, append_assoc, append-nil, length-append}
use Rattle.std.specs.Prelude.{slice_index_or, nat_eq, flat_map, replicate, Contains, ◌&&◌}
use Rattle.std.specs.List.{IsDistinct, list_all}
use Rattle.std.proofs.lemmas.Bool.{cases_eq, cases_lt, leb-true, both_ways, and_parts}
use Rattle.std.proofs.lemmas.List.{get_or_past, get_or-set_same, get_or-set_other, get_or-replicate, length-replicate, length-set, flat_map_more}
use Rattle.std.proofs.lemmas.List.Elements.{Contains-append_left, Contains-append_cases, Contains-push}
use Rattle.std.proofs.lemmas.List.Folds.{list_all-append}
use Rattle.std.proofs.lemmas.List.Sums.{AllPass-from_list_all}
use Rattle.std.proofs.lemmas.Map.Steps.{length-le_from_distinct_below}
use Rattle.cfb_format.specs.declared.validate.Validation.{Validation}
use Rattle.cfb_format.specs.declared.validate.Validation.TheVariants.{Permissive, Strict}
use Rattle.cfb_format.specs.declared.version.Version.{Version}
use Rattle.cfb_format.specs.declared.version.Version.TheVariants.{V3, V4}
use Rattle.cfb_format.specs.Bytes.{sector_len, sector_start, is_whole_sector, is_regular_or_free}
use Rattle.cfb_format.specs.Fat.{FollowsDifat, difat_entries, next_difat, ends_difat}
use Rattle.cfb_format.specs.Header.{IfStrict}
use Rattle.cfb_sectors.specs.Sectors.{SectorFile, sectors_end}
use Rattle.cfb_reading.proofs.cfb_tables.WordLemmas.{found_below}
use Rattle.cfb_reading.specs.Difat.{AcceptsDifatSectors, AreDifatWords, has_sector, is_strict_next}
use Rattle.cfb_format.proofs.Members.{Contains-nil, Contains-here, Contains-one, none_distinct, distinct-push, distinct-apart}
use Rattle.cfb_format.proofs.Tests.{if_strict}

-- ---- which of them came before

-- the sectors so far are those with a mark, each is one of the file's, and none came twice
pub record HasMet (file : SectorFile) (own : List ℕ) (met : List Bool) : Type 0 where
  pub len : length met ≡ file.num_sectors
  pub once : IsDistinct nat_eq own
  pub there : list_all (has_sector file) own ≡ true
  pub marked : (i : ℕ) → Contains own i → slice_index_or met i false ≡ true
  pub only : (i : ℕ) → slice_index_or met i false ≡ true → Contains own i

alike : (n i : ℕ) → slice_index_or (replicate n false) i false ≡ false
alike n i = elim (cases_lt i n) [
  | inl lt ↦ get_or-replicate n i false false lt
  | inr ge ↦ get_or_past (replicate n false) i false (let len = length-replicate n false in omega (arith, ge, len))
]

pub met-none : (file : SectorFile) (own : List ℕ) (met : List Bool) → own ≡ [] → met ≡ replicate file.num_sectors false → HasMet file own met
met-none file own met none is = rw (none, is) (record {
  len = length-replicate file.num_sectors false;
  once = none_distinct;
  there = refl;
  marked = λ i m. absurd (Contains-nil i m);
  only = λ i e. absurd (both_ways (slice_index_or (replicate file.num_sectors false) i false) (alike file.num_sectors i) e);
})

-- a sector that is all there is one of the sectors
below_by : (v : Version) (i n len : ℕ) → len ≤ sector_start v n → sector_start v i + sector_len v ≤ len → i < n
below_by V3 i n len within fits = omega arith
below_by V4 i n len within fits = omega arith

pub there-below : (file : SectorFile) (i : ℕ) → file.len ≤ sectors_end file → has_sector file i ≡ true → i < file.num_sectors
there-below file i within e =
    below_by file.version i file.num_sectors file.len within (leb-true (sector_start file.version i + sector_len file.version) file.len e)

pub all-below : (file : SectorFile) (list : List ℕ) → file.len ≤ sectors_end file → list_all (has_sector file) list ≡ true
    → (i : ℕ) → Contains list i → i < file.num_sectors
all-below file list within all i m =
    there-below file i within (ap (has_sector file) (sym m.2) ∙ AllPass-from_list_all (has_sector file) list all m.0 i m.1)

pub met-few : (file : SectorFile) (own : List ℕ) (met : List Bool) → file.len ≤ sectors_end file → HasMet file own met → length own ≤ file.num_sectors
met-few file own met within h =
    length-le_from_distinct_below own file.num_sectors h.once (found_below file.num_sectors own (all-below file own within h.there))

pub met-more : (file : SectorFile) (own : List ℕ) (met : List Bool) (x : ℕ) → file.len ≤ sectors_end file → HasMet file own met
    → slice_index_or met x false ≡ false → has_sector file x ≡ true → HasMet file (own ++ x ∷ []) (set met x true)
met-more file own met x within h fresh whole = record {
  len = length-set met x true ∙ h.len;
  once = distinct-push own x h.once (λ m. both_ways (slice_index_or met x false) fresh (h.marked x m));
  there = list_all-append (has_sector file) own (x ∷ []) ∙ (λ j. h.there j && (whole j && true));
  marked = λ i m. elim (cases_eq i x) [
    | inl at ↦ here i at
    | inr ne ↦ get_or-set_other met x i true false ne ∙ h.marked i (elim (Contains-append_cases own (x ∷ []) i m) [
      | inl l ↦ l
      | inr r ↦ absurd (ne (sym (Contains-one x i r)))
    ])
  ];
  only = λ i e. elim (cases_eq i x) [
    | inl at ↦ subst (Contains (own ++ x ∷ [])) (sym at) (Contains-push own x)
    | inr ne ↦ Contains-append_left own (x ∷ []) i (h.only i (sym (get_or-set_other met x i true false ne) ∙ e))
  ];
}
  where
    below : x < length met
    below = let lt = there-below file x within whole in let len = h.len in omega (arith, lt, len)

    here : (i : ℕ) → i ≡ x → slice_index_or (set met x true) i false ≡ true
    here i at = ap (λ k. slice_index_or (set met x true) k false) at ∙ get_or-set_same met x true false below

-- ---- the walk

-- the DIFAT goes on from here as it does from the first sector behind those so far, and these end it as this mode wants it
pub record Followed (validation : Validation) (v : Version) (bytes : List ℕ) (first : ℕ) (own : List ℕ) (next : ℕ) : Type 0 where
  pub onward : (ys : List ℕ) → FollowsDifat v bytes next ys → FollowsDifat v bytes first (own ++ ys)
  pub back : (zs : List ℕ) → FollowsDifat v bytes first zs → (ys : List ℕ) × FollowsDifat v bytes next ys × (zs ≡ own ++ ys)
  pub ended : IfStrict validation (list_all (λ i. is_strict_next (next_difat v bytes i)) own ≡ true)

both-strict : (validation : Validation) (P Q R : Type 0) → (P → Q → R) → IfStrict validation P → IfStrict validation Q → IfStrict validation R
both-strict Permissive P Q R f p q = tt
both-strict Strict P Q R f p q = f p q

always : (validation : Validation) (P : Type 0) → P → IfStrict validation P
always Permissive P p = tt
always Strict P p = p

pub followed-none : (validation : Validation) (v : Version) (bytes : List ℕ) (first : ℕ) (own : List ℕ) (next : ℕ) → own ≡ [] → next ≡ first
    → Followed validation v bytes first own next
followed-none validation v bytes first own next none is = rw (none, is) (record {
  onward = λ ys f. f;
  back = λ zs f. (zs, f, refl);
  ended = always validation (true ≡ true) refl;
})

-- a DIFAT that goes on here
opened : (v : Version) (bytes : List ℕ) (s : ℕ) (ys : List ℕ) → ends_difat s ≡ false → FollowsDifat v bytes s ys
    → (zs : List ℕ) × (ys ≡ s ∷ zs) × (is_whole_sector v bytes s ≡ true) × (list_all is_regular_or_free (difat_entries v bytes s) ≡ true)
    × FollowsDifat v bytes (next_difat v bytes s) zs
opened v bytes s [] e f = absurd (both_ways (ends_difat s) e f)
opened v bytes s (i ∷ own) e (same, ne, w, r, f) = (
  own,
  ap (λ k. k ∷ own) (sym same),
  subst (λ k. is_whole_sector v bytes k ≡ true) (sym same) w,
  subst (λ k. list_all is_regular_or_free (difat_entries v bytes k) ≡ true) (sym same) r,
  subst (λ k. FollowsDifat v bytes (next_difat v bytes k) own) (sym same) f,
)

one-more : (list : List ℕ) (x : ℕ) (ys : List ℕ) → list ++ x ∷ ys ≡ (list ++ x ∷ []) ++ ys
one-more list x ys = sym (append_assoc list (x ∷ []) ys)

module _ (validation : Validation) (v : Version) (bytes : List ℕ) (first : ℕ) (own : List ℕ) (next : ℕ) (w : Followed validation v bytes first own next) where
  pub followed-more : ends_difat next ≡ false → is_whole_sector v bytes next ≡ true → AreDifatWords validation (difat_entries v bytes next) (next_difat v bytes next)
      → Followed validation v bytes first (own ++ next ∷ []) (next_difat v bytes next)
  followed-more on whole words = record {
    onward = λ ys f. subst (FollowsDifat v bytes first) (one-more own next ys) (w.onward (next ∷ ys) (refl, on, whole, words.numbers, f));
    back = λ zs f.
        let (ys, fy, ey) = w.back zs f in
        let (us, eu, wu, ru, fu) = opened v bytes next ys on fy in
        (us, fu, ey ∙ ap (λ (x : List ℕ). own ++ x) eu ∙ one-more own next us);
    ended = both-strict validation _ _ _ (λ a b. list_all-append (λ i. is_strict_next (next_difat v bytes i)) own (next ∷ []) ∙ (λ j. a j && (b j && true))) w.ended words.ended;
  }

  pub followed-all : ends_difat next ≡ true → IsDistinct nat_eq own → AcceptsDifatSectors validation v bytes first own
  followed-all end once = record {
    sectors = subst (FollowsDifat v bytes first) (append-nil own) (w.onward [] end);
    distinct = once;
    ended = w.ended;
  }

  -- what opening reads goes through the next sector
  pub followed-through : ends_difat next ≡ false → (zs : List ℕ) → AcceptsDifatSectors validation v bytes first zs
      → (Contains own next → ⊥) × (is_whole_sector v bytes next ≡ true) × AreDifatWords validation (difat_entries v bytes next) (next_difat v bytes next)
  followed-through on zs a =
      let (ys, fy, ey) = w.back zs a.sectors in
      let (us, eu, wu, ru, fu) = opened v bytes next ys on fy in
      let whole : zs ≡ own ++ next ∷ us = ey ∙ ap (λ (x : List ℕ). own ++ x) eu in (
        (λ m. distinct-apart own (next ∷ us) (subst (IsDistinct nat_eq) whole a.distinct) next m (Contains-here next us)),
        wu,
        record {
          numbers = ru;
          ended = if_strict validation _ _ (λ all.
              let parts = and_parts _ _ (sym (list_all-append (λ i. is_strict_next (next_difat v bytes i)) own (next ∷ us)) ∙ ap (list_all (λ i. is_strict_next (next_difat v bytes i))) (sym whole) ∙ all) in
              (and_parts _ _ parts.1).0) a.ended;
        },
      )

pub length-more : (new own : List ℕ) (x : ℕ) → new ≡ own ++ x ∷ [] → length new ≡ length own + 1
length-more new own x is = ap length is ∙ length-append own (x ∷ [])

pub count-none : (h w n e : ℕ) → n ≡ 0 → e ≡ h → e ≡ h + n * w
count-none h w n e none is = is ∙ (let z : h ≡ h + 0 * w = omega arith in z) ∙ ap (λ k. h + k * w) (sym none)

pub count-more : (h w n m e f : ℕ) → e ≡ h + n * w → m ≡ n + 1 → f ≡ e + w → f ≡ h + m * w
count-more h w n m e f was more is = is ∙ ap (λ k. k + w) was ∙ (let z : h + n * w + w ≡ h + (n + 1) * w = omega arith in z) ∙ ap (λ k. h + k * w) (sym more)

-- the entries of one more sector, with the sector at its place in any file that is as this one
pub entries-more : (v : Version) (bytes listed own new entries more : List ℕ) (x : ℕ) → new ≡ own ++ x ∷ [] → entries ≡ listed ++ flat_map (difat_entries v bytes) own
    → more ≡ entries ++ difat_entries v bytes x → more ≡ listed ++ flat_map (difat_entries v bytes) new
entries-more v bytes listed own new entries more x is was then =
    then ∙ ap (λ (ys : List ℕ). ys ++ difat_entries v bytes x) was ∙ flat_map_more (difat_entries v bytes) listed own x
    ∙ ap (λ (ys : List ℕ). listed ++ flat_map (difat_entries v bytes) ys) (sym is)
