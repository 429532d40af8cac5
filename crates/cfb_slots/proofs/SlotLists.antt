-- The list of a directory's slots, and its slots by their places.
use Rattle.std.proofs.Common.{◌≡◌, ◌<◌, ◌+◌, ◌-◌, ◌*◌, ◌/◌, ◌%◌, inl, inr, ℕ, zero, suc, List, [], ◌∷◌, refl, sym, ◌∙◌, ap, subst, length, take, drop, arith, mod-lt, length-append, drop-drop}
use Rattle.std.specs.Prelude.{slice_index, slice_index_or, flat_map}
use Rattle.std.specs.List.{AllZip, range_with_len}
use Rattle.std.proofs.lemmas.Bool.{cases_lt}
use Rattle.std.proofs.lemmas.Nat.{div-add-mod', same_from_place}
use Rattle.std.proofs.lemmas.List.{get_or-append_right, get_or_append_left, get_or-map, take-take, drop-take}
use Rattle.std.proofs.lemmas.List.FromFn.{get_or-range_with_len, length-range_with_len, length-map-range_with_len}
use Rattle.cfb_format.specs.declared.version.Version.{Version}
use Rattle.cfb_format.specs.declared.validate.Validation.{Validation}
use Rattle.cfb_format.specs.declared.validate.Validation.TheVariants.{Permissive, Strict}
use Rattle.cfb_format.specs.Bytes.{sector_bytes, sector_len, sector_start, entries_per_sector}
use Rattle.cfb_format.specs.DirectoryEntry.{Entry, AcceptsEntry, IsEntry, IsStrictEntry, slot_at, slots, slots_of_sector, unallocated_entry}
use Rattle.cfb_format.specs.Header.{IfStrict}
use Rattle.cfb_format.specs.Medium.{part}
use Rattle.cfb_format.specs.Siblings.{entry_at}
use Rattle.cfb_slots.specs.Slots.{slot_of}
use Rattle.cfb_slots.specs.SlotLaws.{SlotsByPlace, SlotsAtPlaces}
use Rattle.cfb_slots.proofs.SlotPlaces.{index_fits, some_slots}
use Rattle.cfb_format.proofs.Members.{Contains-nil}
use Rattle.cfb_format.proofs.Tests.{if_strict}
use Rattle.cfb_format.proofs.Slots.{length-slots}

-- ---- an element of lists of one length one after the other

module _ {A : Type 0} (f : ℕ → List A) (e : ℕ) (pos : 0 < e) (even : (i : ℕ) → length (f i) ≡ e) where
  pub length-even : (list : List ℕ) → length (flat_map f list) ≡ length list * e
  length-even [] = omega arith
  length-even (i ∷ list) = let r = length-even list in let l = length-append (f i) (flat_map f list) in let n = even i in omega (arith, r, l, n)

  pub even-at : (list : List ℕ) (x : ℕ) (d : A) → x < length list * e → slice_index_or (flat_map f list) x d ≡ slice_index_or (f (slice_index list (x / e))) (x % e) d
  even-at [] x d lt = absurd (omega arith)
  even-at (i ∷ list) x d lt = elim (cases_lt x e) [
    | inl less ↦
        let s = same_from_place (x / e) (x % e) 0 x e (mod-lt x pos) less (div-add-mod' x e ∙ (let z : x ≡ 0 * e + x = omega arith in z)) in
        let inside : x < length (f i) = let n = even i in omega (arith, n, less) in
        get_or_append_left (f i) (flat_map f list) d x inside
        ∙ sym (λ j. slice_index_or (f (slice_index (i ∷ list) (s.0 j))) (s.1 j) d)
    | inr ge ↦
        let back : (x - e) / e * e + (x - e) % e ≡ x - e = div-add-mod' (x - e) e in
        let up : suc ((x - e) / e) * e ≡ (x - e) / e * e + e = omega arith in
        let whole : x ≡ suc ((x - e) / e) * e + (x - e) % e = omega (arith, back, ge, up) in
        let s = same_from_place (x / e) (x % e) (suc ((x - e) / e)) ((x - e) % e) e (mod-lt x pos) (mod-lt (x - e) pos) (div-add-mod' x e ∙ whole) in
        let more : suc (length list) * e ≡ length list * e + e = omega arith in
        get_or-append_right (f i) (flat_map f list) e x d (even i) ge
        ∙ even-at list (x - e) d (omega (arith, lt, ge, more))
        ∙ ap (λ n. slice_index_or (f (slice_index list ((x - e) / e))) n d) (sym s.1)
        ∙ ap (λ n. slice_index_or (f (slice_index (i ∷ list) n)) (x % e) d) (sym s.0)
  ]

-- ---- two lists, element by element

module _ {A B : Type 0} (R : A → B → Type 0) (d : A) (e : B) where
  pub zip-length : (xs : List A) (ys : List B) → AllZip R xs ys → length xs ≡ length ys
  zip-length [] [] z = refl
  zip-length [] (y ∷ ys) z = elim z [ ]
  zip-length (x ∷ xs) [] z = elim z [ ]
  zip-length (x ∷ xs) (y ∷ ys) z = ap suc (zip-length xs ys z.1)

  pub zip-at : (xs : List A) (ys : List B) (k : ℕ) → AllZip R xs ys → k < length ys → R (slice_index_or xs k d) (slice_index_or ys k e)
  zip-at [] [] k z lt = absurd (omega arith)
  zip-at [] (y ∷ ys) k z lt = elim z [ ]
  zip-at (x ∷ xs) [] k z lt = elim z [ ]
  zip-at (x ∷ xs) (y ∷ ys) zero z lt = z.0
  zip-at (x ∷ xs) (y ∷ ys) (suc k) z lt = zip-at xs ys k z.1 (omega arith)

  pub zip-from_at : (xs : List A) (ys : List B) → length xs ≡ length ys → ((k : ℕ) → k < length ys → R (slice_index_or xs k d) (slice_index_or ys k e)) → AllZip R xs ys
  zip-from_at [] [] same each = tt
  zip-from_at [] (y ∷ ys) same each = absurd (omega (arith, same))
  zip-from_at (x ∷ xs) [] same each = absurd (omega (arith, same))
  zip-from_at (x ∷ xs) (y ∷ ys) same each = (each 0 (omega arith), zip-from_at xs ys (omega (arith, same)) (λ k lt. each (suc k) (omega arith)))

-- ---- the slots

-- a slot of a sector's bytes stands in the file
slot_in_file : (v : Version) (bytes : List ℕ) (i r : ℕ) → r < entries_per_sector v → slot_at (sector_bytes v bytes i) r ≡ part bytes (sector_start v i + r * 128) 128
slot_in_file v bytes i r low =
    let at = sector_start v i in
    let fits = index_fits v r low in
    let whole : sector_len v ≡ 128 * r + (sector_len v - 128 * r) = omega (arith, fits) in
    let order : at + 128 * r ≡ at + r * 128 = omega arith in
    ap (λ n. take 128 (drop (128 * r) (take n (drop at bytes)))) whole
    ∙ ap (take 128) (drop-take (128 * r) (sector_len v - 128 * r) (drop at bytes))
    ∙ take-take 128 (sector_len v - 128 * r) (drop (128 * r) (drop at bytes)) (omega (arith, fits))
    ∙ ap (take 128) (drop-drop (128 * r) at bytes ∙ ap (λ n. drop n bytes) order)

slots_even : (v : Version) (bytes : List ℕ) (i : ℕ) → length (slots_of_sector v bytes i) ≡ entries_per_sector v
slots_even v bytes i = length-map-range_with_len (slot_at (sector_bytes v bytes i)) 0 (entries_per_sector v)

pub slots-at : (v : Version) (bytes list : List ℕ) (k : ℕ) → k < length list * entries_per_sector v → slice_index_or (slots v bytes list) k [] ≡ slot_of v bytes list k
unfolding slots
slots-at v bytes list k lt =
    let per = entries_per_sector v in
    let sector = slice_index list (k / per) in
    let low : k % per < per = mod-lt k (some_slots v) in
    even-at (slots_of_sector v bytes) per (some_slots v) (slots_even v bytes) list k [] lt
    ∙ get_or-map (slot_at (sector_bytes v bytes sector)) (range_with_len 0 per) (k % per) 0 [] (let l = length-range_with_len 0 per in omega (arith, l, low))
    ∙ ap (slot_at (sector_bytes v bytes sector)) (get_or-range_with_len 0 per (k % per) 0 low ∙ (let z : 0 + k % per ≡ k % per = omega arith in z))
    ∙ slot_in_file v bytes sector (k % per) low

-- ---- slots that hold entries

strict_zip : (validation : Validation) (R : List ℕ → Entry → Type 0) (xs : List (List ℕ)) (ys : List Entry) → length xs ≡ length ys
    → ((k : ℕ) → k < length ys → IfStrict validation (R (slice_index_or xs k []) (entry_at ys k))) → IfStrict validation (AllZip R xs ys)
strict_zip Permissive R xs ys same each = tt
strict_zip Strict R xs ys same each = zip-from_at R [] unallocated_entry xs ys same each

pub by-place : SlotsByPlace
by-place validation version bytes sectors entries h =
    let same : length (slots version bytes sectors) ≡ length entries = length-slots version bytes sectors ∙ sym h.count in
    let taken : (k : ℕ) → k < length entries → AcceptsEntry validation version (slice_index_or (slots version bytes sectors) k []) (entry_at entries k) = λ k lt.
    subst (λ (slot : List ℕ). AcceptsEntry validation version slot (entry_at entries k)) (sym (slots-at version bytes sectors k (let n = h.count in omega (arith, lt, n))))
    (h.each k lt (Contains-nil k)) in (
      zip-from_at (IsEntry version) [] unallocated_entry (slots version bytes sectors) entries same (λ k lt. (taken k lt).entry),
      strict_zip validation (IsStrictEntry version) (slots version bytes sectors) entries same (λ k lt. (taken k lt).strict),
      same,
    )

pub at-places : SlotsAtPlaces
at-places validation version bytes sectors entries z s =
    let same : length (slots version bytes sectors) ≡ length entries = zip-length (IsEntry version) [] unallocated_entry (slots version bytes sectors) entries z in
    let count : length entries ≡ length sectors * entries_per_sector version = sym same ∙ length-slots version bytes sectors in
    record {
      count = count;
      each = λ k lt out.
          subst (λ (slot : List ℕ). AcceptsEntry validation version slot (entry_at entries k)) (slots-at version bytes sectors k (omega (arith, lt, count)))
          (record {
            entry = zip-at (IsEntry version) [] unallocated_entry (slots version bytes sectors) entries k z lt;
            strict = if_strict validation (AllZip (IsStrictEntry version) (slots version bytes sectors) entries)
                (IsStrictEntry version (slice_index_or (slots version bytes sectors) k []) (entry_at entries k))
                (λ q. zip-at (IsStrictEntry version) [] unallocated_entry (slots version bytes sectors) entries k q lt)
                s;
          });
    }
