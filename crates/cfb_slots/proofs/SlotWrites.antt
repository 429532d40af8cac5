-- What writes of slots and changes of entries leave of the slots.
use Rattle.std.proofs.Common.{◌≡◌, ◌≢◌, ◌<◌, ◌+◌, ◌-◌, ◌*◌, ◌/◌, ◌%◌, inl, inr, ℕ, List, [], ◌∷◌, ◌++◌, refl, sym, ◌∙◌, ap, subst, length, replicate, arith, mod-lt, length-append}
use Rattle.std.specs.Prelude.{slice_index, slice_index_or, nat_eq, Contains}
use Rattle.std.specs.List.{IsDistinct}
use Rattle.std.proofs.lemmas.Bool.{cases_eq, cases_lt}
use Rattle.std.proofs.lemmas.Nat.{div-add-mod', same_from_place}
use Rattle.std.proofs.lemmas.List.{get_or-append_right, get_or_append_left, length-replicate, get_or-replicate, get_or-map}
use Rattle.std.proofs.lemmas.List.Elements.{Contains-get_or, Contains-append_left, Contains-append_right}
use Rattle.cfb_format.specs.declared.version.Version.{Version}
use Rattle.cfb_format.specs.declared.version.Version.TheVariants.{V3, V4}
use Rattle.cfb_format.specs.declared.validate.Validation.{Validation}
use Rattle.cfb_format.specs.Bytes.{sector_start, entries_per_sector, stream_len_modulus}
use Rattle.cfb_format.specs.DirectoryEntry.{Entry, AcceptsEntry, entry_bytes, unallocated_entry}
use Rattle.cfb_format.specs.Medium.{ChangesOnlyBytes, part, written}
use Rattle.cfb_format.specs.Siblings.{entry_at}
use Rattle.cfb_format.proofs.ByteLemmas.{part_written, part-written_apart}
use Rattle.cfb_codecs.specs.declared.direntry.DirEntry.{DirEntry}
use Rattle.cfb_codecs.specs.EntryModel.{entries_of, entry_of}
use Rattle.cfb_codecs.proofs.EntryBack.{entry_read_back}
use Rattle.cfb_alloc.specs.Agreement.{HasSectors}
use Rattle.cfb_alloc.proofs.FreshSlots.{fresh-slots}
use Rattle.cfb_slots.specs.Slots.{ChangesSlots, HoldSlotsBut, slot_of, slot_place}
use Rattle.cfb_slots.specs.SlotLaws.{SlotsStay, FreshSlotsAreHeld, EntriesThatStayAreHeld}
use Rattle.cfb_slots.proofs.SlotPlaces.{slot_inside, slot_sector, slot_stays, slots_apart, some_slots}
use Rattle.cfb_format.proofs.Members.{Contains-cases, Contains-nil}

-- an entry of the list that the code keeps
pub kept_entry : {A : Type 0} (es : List (DirEntry A)) (k : ℕ) (e : DirEntry A) → k < length es → e ≡ slice_index_or es k e → entry_at (entries_of es) k ≡ entry_of e
kept_entry es k e lt is = get_or-map entry_of es k e unallocated_entry lt ∙ ap entry_of (sym is)

-- ---- one slot is written

-- a number stands in a list of one, or in the rest
in_one : (k j : ℕ) (late : List ℕ) → j ≢ k → (Contains late j → ⊥) → Contains (k ∷ late) j → ⊥
in_one k j late ne far m = elim (Contains-cases k late j m) [ inl e ↦ ne (sym e) | inr r ↦ far r ]

pub slot_written : (validation : Validation) (v : Version) (bytes sectors : List ℕ) (entries : List Entry) (late : List ℕ) (k : ℕ) (slot : List ℕ)
    → IsDistinct nat_eq sectors → HasSectors v bytes sectors → k < length entries → length slot ≡ 128 → AcceptsEntry validation v slot (entry_at entries k)
    → HoldSlotsBut (k ∷ late) validation v bytes sectors entries
    → HoldSlotsBut late validation v (written bytes (slot_place v sectors k) slot) sectors entries
slot_written validation v bytes sectors entries late k slot once whole inside len accepts h =
    let lk : k < length sectors * entries_per_sector v = omega (arith, inside, h.count) in
    record {
      count = h.count;
      each = λ j lt far. elim (cases_eq j k) [
        | inl e ↦ subst (λ (n : ℕ). AcceptsEntry validation v (slot_of v (written bytes (slot_place v sectors k) slot) sectors n) (entry_at entries n)) (sym e)
            (subst (λ (s : List ℕ). AcceptsEntry validation v s (entry_at entries k)) (sym (part_written bytes (slot_place v sectors k) 128 slot (sym len))) accepts)
        | inr ne ↦
            let lj : j < length sectors * entries_per_sector v = omega (arith, lt, h.count) in
            subst (λ (s : List ℕ). AcceptsEntry validation v s (entry_at entries j))
            (sym (part-written_apart bytes (slot_place v sectors k) slot (slot_place v sectors j) 128 (slot_inside v bytes sectors j whole lj)
            (λ low. elim (slots_apart v sectors once k j (λ e. ne (sym e)) lk lj) [ inl before ↦ omega (arith, before, len) | inr behind ↦ absurd (omega (arith, behind, low)) ])))
            (h.each j lt (in_one k j late ne far))
      ];
    }

-- ---- changes of slots

pub slots_refl : (touched : List ℕ) (v : Version) (sectors a : List ℕ) → ChangesSlots touched v sectors a a
slots_refl touched v sectors a = record { no_shorter = omega arith; others = λ i lt out. refl }

pub slots_trans : (touched : List ℕ) (v : Version) (sectors a b c : List ℕ) → ChangesSlots touched v sectors a b → ChangesSlots touched v sectors b c
    → ChangesSlots touched v sectors a c
slots_trans touched v sectors a b c first second =
    let longer = first.no_shorter in
    record {
      no_shorter = omega (arith, longer, second.no_shorter);
      others = λ i lt out. second.others i (omega (arith, lt, longer)) out ∙ first.others i lt out;
    }

pub slots_more : (few many : List ℕ) (v : Version) (sectors a b : List ℕ) → ((k : ℕ) → Contains few k → Contains many k) → ChangesSlots few v sectors a b
    → ChangesSlots many v sectors a b
slots_more few many v sectors a b more change = record { no_shorter = change.no_shorter; others = λ i lt out. change.others i lt (λ k m. out k (more k m)) }

pub one_slot : (v : Version) (sectors a b : List ℕ) (k : ℕ) → ChangesOnlyBytes (slot_place v sectors k) 128 a b → ChangesSlots (k ∷ []) v sectors a b
one_slot v sectors a b k change = record {
  no_shorter = change.no_shorter;
  others = λ i lt out. elim (out k (0, omega arith, refl)) [ inl low ↦ change.below i lt low | inr high ↦ change.above i lt high ];
}

-- some slots were changed, and then the one that is named at a place of their list
pub slots_after : (touched : List ℕ) (i : ℕ) → i < length touched → {v w : Version} → w ≡ v → (sectors : List ℕ) {a b c : List ℕ} → ChangesSlots touched v sectors a b
    → ChangesSlots (slice_index touched i ∷ []) w sectors b c → ChangesSlots touched v sectors a c
slots_after touched i lt {v} {w} same sectors {a} {b} {c} first second =
    slots_trans touched v sectors a b c first (slots_more (slice_index touched i ∷ []) touched v sectors b c
    (λ k m. elim (Contains-cases (slice_index touched i) [] k m) [ inl e ↦ subst (λ j. Contains touched j) e (Contains-get_or touched i 0 lt) | inr r ↦ absurd (Contains-nil k r) ])
    (subst (λ (u : Version). ChangesSlots (slice_index touched i ∷ []) u sectors b c) same second))

-- ---- slots that stay

pub slots-stay : SlotsStay
slots-stay late validation version old new sectors entries h whole keeps = record {
  count = h.count;
  each = λ k lt far.
      subst (λ (slot : List ℕ). AcceptsEntry validation version slot (entry_at entries k))
      (sym (slot_stays version old new sectors k whole keeps (let n = h.count in omega (arith, lt, n))))
      (h.each k lt far);
}

pub entries-stay : EntriesThatStayAreHeld
entries-stay touched late validation version bytes sectors old new h len same = record {
  count = len ∙ h.count;
  each = λ k lt far.
      subst (λ (e : Entry). AcceptsEntry validation version (slot_of version bytes sectors k) e) (sym (same k (λ m. far (Contains-append_left touched late k m))))
      (h.each k (omega (arith, lt, len)) (λ m. far (Contains-append_right touched late k m)));
}

-- ---- a fresh sector

fresh_accepted : (validation : Validation) (v : Version) → AcceptsEntry validation v (entry_bytes unallocated_entry) unallocated_entry
fresh_accepted validation v = entry_read_back validation v unallocated_entry
    (record {
      name = refl;
      left_sibling = omega arith;
      right_sibling = omega arith;
      child = omega arith;
      clsid = refl;
      state_bits = omega arith;
      creation_time = omega arith;
      modified_time = omega arith;
      start_sector = omega arith;
      stream_len = omega arith;
    })
    (record {
      name = refl;
      left_sibling = refl;
      right_sibling = refl;
      child = refl;
      clsid = refl;
      creation_time = refl;
      modified_time = refl;
      start_sector = refl;
      stream_len = refl;
      len_in_version = some_len v;
    })
  where
    some_len : (v : Version) → 0 < stream_len_modulus v
    some_len V3 = omega arith
    some_len V4 = omega arith

pub fresh-held : FreshSlotsAreHeld
fresh-held late validation version bytes sectors entries x h filled =
    let per = entries_per_sector version in
    let n = h.count in
    let count_new = length-append entries (replicate per unallocated_entry) in
    let rep = length-replicate per unallocated_entry in
    let count_sectors = length-append sectors (x ∷ []) in
    let one : length (x ∷ []) ≡ 1 = refl in
    let more : (length sectors + 1) * per ≡ length sectors * per + per = omega arith in
    let all : length (sectors ++ x ∷ []) * per ≡ (length sectors + 1) * per = ap (λ m. m * per) (count_sectors ∙ ap (λ m. length sectors + m) one) in
    record {
      count = count_new ∙ ap (λ m. length entries + m) rep ∙ ap (λ m. m + per) n ∙ sym more ∙ sym all;
      each = λ k lt far. elim (cases_lt k (length entries)) [
        | inl low ↦
            let here : slice_index (sectors ++ x ∷ []) (k / per) ≡ slice_index sectors (k / per) =
            get_or_append_left sectors (x ∷ []) 0 (k / per) (slot_sector version k (length sectors) (omega (arith, low, n))) in
            let entry : entry_at (entries ++ replicate per unallocated_entry) k ≡ entry_at entries k = get_or_append_left entries (replicate per unallocated_entry) unallocated_entry k low in
            subst (λ (e : Entry). AcceptsEntry validation version (slot_of version bytes (sectors ++ x ∷ []) k) e) (sym entry)
            (subst (λ (s : ℕ). AcceptsEntry validation version (part bytes (sector_start version s + k % per * 128) 128) (entry_at entries k)) (sym here) (h.each k low far))
        | inr ge ↦
            let r : ℕ = k - length entries in
            let small : r < per = omega (arith, lt, ge, count_new, rep) in
            let there : k ≡ length sectors * per + r = omega (arith, ge, n) in
            let s = same_from_place (k / per) (k % per) (length sectors) r per (mod-lt k (some_slots version)) small (div-add-mod' k per ∙ there) in
            let sector : slice_index (sectors ++ x ∷ []) (k / per) ≡ x =
            ap (slice_index (sectors ++ x ∷ [])) s.0 ∙ get_or-append_right sectors (x ∷ []) (length sectors) (length sectors) 0 refl (omega arith)
            ∙ ap (slice_index (x ∷ [])) (let z : length sectors - length sectors ≡ 0 = omega arith in z) in
            let entry : entry_at (entries ++ replicate per unallocated_entry) k ≡ unallocated_entry =
            get_or-append_right entries (replicate per unallocated_entry) (length entries) k unallocated_entry refl ge ∙ get_or-replicate per r unallocated_entry unallocated_entry small in
            let slot : slot_of version bytes (sectors ++ x ∷ []) k ≡ entry_bytes unallocated_entry =
            (λ j. part bytes (sector_start version (sector j) + s.1 j * 128) 128) ∙ fresh-slots version bytes x r filled small in
            subst (λ (e : Entry). AcceptsEntry validation version (slot_of version bytes (sectors ++ x ∷ []) k) e) (sym entry)
            (subst (λ (b : List ℕ). AcceptsEntry validation version b unallocated_entry) (sym slot) (fresh_accepted validation version))
      ];
    }
