-- The slots of a sector, and the entries in them (MS-CFB 2.6).
use Rattle.std.proofs.Common.{◌≡◌, ◌≤◌, ◌<◌, ◌+◌, ◌*◌, ◌/◌, ℕ, zero, suc, List, [], ◌∷◌, ◌++◌, refl, sym, ◌∙◌, ap, subst, length, take, drop, arith, append_assoc, append-nil}
use Rattle.std.specs.Prelude.{map, slice_index_or}
use Rattle.std.specs.List.{AllZip, range_with_len}
use Rattle.std.specs.Simd.{first_chunks}
use Rattle.std.proofs.lemmas.List.{drop-drop, map-append, take_more}
use Rattle.cfb_format.specs.declared.version.Version.{Version}
use Rattle.cfb_format.specs.declared.version.Version.TheVariants.{V3, V4}
use Rattle.cfb_format.specs.declared.validate.Validation.{Validation}
use Rattle.cfb_format.specs.declared.validate.Validation.TheVariants.{Permissive, Strict}
use Rattle.cfb_format.specs.Bytes.{entries_per_sector, max_stream_len, sector_bytes, sector_len}
use Rattle.cfb_format.specs.DirectoryEntry.{Entry, AcceptsEntry, IsEntry, IsStrictEntry, slot_at, slots_of_sector, stored_len}
use Rattle.cfb_format.specs.Header.{IfStrict}
use Rattle.cfb_codecs.specs.declared.direntry.DirEntry.{DirEntry}
use Rattle.cfb_codecs.specs.EntryModel.{entries_of, entry_of}
use Rattle.cfb_reading.specs.ReadDirectory.{AppendsSlots, ReadsSlot}
use Rattle.cfb_reading.proofs.Zips.{zip-append, zip-as, zip-both}
use Rattle.cfb_format.proofs.Slots.{stored_short, read_short}

-- ---- the slots, cut out of a sector's bytes

chunks_from : (bytes : List ℕ) (k o : ℕ) → first_chunks 128 k (drop (128 * o) bytes) ≡ map (slot_at bytes) (range_with_len o k)
chunks_from bytes zero o = refl
chunks_from bytes (suc k) o =
    let on : 128 * o + 128 ≡ 128 * (o + 1) = omega arith in
    let rest : first_chunks 128 k (drop 128 (drop (128 * o) bytes)) ≡ map (slot_at bytes) (range_with_len (o + 1) k) =
    ap (first_chunks 128 k) (drop-drop 128 (128 * o) bytes ∙ ap (λ n. drop n bytes) on) ∙ chunks_from bytes k (o + 1) in
    ap (λ r. slot_at bytes o ∷ r) rest

per-sector : (v : Version) → sector_len v / 128 ≡ entries_per_sector v
per-sector V3 = refl
per-sector V4 = refl

-- the pieces of a sector's bytes are its slots
pub chunks-slots : (v : Version) (file : List ℕ) (i : ℕ) (bytes : List ℕ) (n : ℕ) → n ≡ sector_len v → bytes ≡ sector_bytes v file i
    → first_chunks 128 (n / 128) bytes ≡ slots_of_sector v file i
chunks-slots v file i bytes n whole is =
    ap (λ m. first_chunks 128 (m / 128) bytes) whole ∙ ap (λ m. first_chunks 128 m bytes) (per-sector v)
    ∙ chunks_from bytes (entries_per_sector v) 0
    ∙ ap (λ b. map (slot_at b) (range_with_len 0 (entries_per_sector v))) is

pub length-chunks : (k : ℕ) (bytes : List ℕ) → length (first_chunks 128 k bytes) ≡ k
length-chunks zero bytes = refl
length-chunks (suc k) bytes = ap suc (length-chunks k (drop 128 bytes))

pub chunk-count : (v : Version) (bytes : List ℕ) (n : ℕ) → n ≡ sector_len v → length (first_chunks 128 (n / 128) bytes) ≡ entries_per_sector v
chunk-count v bytes n whole = length-chunks (n / 128) bytes ∙ ap (λ m. m / 128) whole ∙ per-sector v

-- where the pieces hold no entries, the sector's slots do not
pub no-entries : (validation : Validation) (v w : Version) (file : List ℕ) (i : ℕ) (bytes : List ℕ) (chunks : List (List ℕ)) → w ≡ v → length bytes ≡ sector_len v
    → bytes ≡ sector_bytes v file i → chunks ≡ first_chunks 128 (length bytes / 128) bytes
    → ((more : List Entry) → AllZip (AcceptsEntry validation w) chunks more → ⊥) → (more : List Entry) → AllZip (AcceptsEntry validation v) (slots_of_sector v file i) more → ⊥
no-entries validation v w file i bytes chunks version whole is cut none more z =
    none more
    (subst (λ u. AllZip (AcceptsEntry validation u) chunks more) (sym version)
    (subst (λ (xs : List (List ℕ)). AllZip (AcceptsEntry validation v) xs more) (sym (cut ∙ chunks-slots v file i bytes (length bytes) whole is)) z))

-- ---- entries that are appended

module _ (validation : Validation) (version : Version) where
  pub appends-none : (old : List Entry) → AppendsSlots validation version [] old old
  appends-none old = record { more = []; each = tt; appended = sym (append-nil old) }

  pub appends-more : (all : List (List ℕ)) (i : ℕ) (old now : List Entry) (e : Entry) → i < length all
      → AppendsSlots validation version (take i all) old now → ReadsSlot validation version (slice_index_or all i []) e
      → AppendsSlots validation version (take (i + 1) all) old (now ++ e ∷ [])
  appends-more all i old now e lt h slot = record {
    more = h.more ++ e ∷ [];
    each = subst (λ (xs : List (List ℕ)). AllZip (ReadsSlot validation version) xs (h.more ++ e ∷ [])) (sym (take_more all i [] lt))
        (zip-append (ReadsSlot validation version) (take i all) (slice_index_or all i [] ∷ []) h.more (e ∷ []) h.each (slot, tt));
    appended = ap (λ xs. xs ++ e ∷ []) h.appended ∙ append_assoc old h.more (e ∷ []);
  }

  pub appends-pushed : {A : Type 0} (all : List (List ℕ)) (i : ℕ) (old : List Entry) (items items' : List (DirEntry A)) (entry : DirEntry A) → i < length all
      → items' ≡ items ++ entry ∷ [] → AppendsSlots validation version (take i all) old (entries_of items) → ReadsSlot validation version (slice_index_or all i []) (entry_of entry)
      → AppendsSlots validation version (take (i + 1) all) old (entries_of items')
  appends-pushed all i old items items' entry lt is h slot =
      subst (λ (es : List Entry). AppendsSlots validation version (take (i + 1) all) old es) (sym (ap entries_of is ∙ map-append entry_of items (entry ∷ [])))
      (appends-more all i old (entries_of items) (entry_of entry) lt h slot)

-- ---- entries in slots, as a mode takes them

pub zip-entries : (validation : Validation) (version : Version) (xs : List (List ℕ)) (es : List Entry) → AllZip (ReadsSlot validation version) xs es → AllZip (IsEntry version) xs es
zip-entries validation version xs es z = zip-as (ReadsSlot validation version) (IsEntry version) (λ x e h. h.accepted.entry) xs es z

pub zip-strict : (validation : Validation) (version : Version) (xs : List (List ℕ)) (es : List Entry) → AllZip (ReadsSlot validation version) xs es
    → IfStrict validation (AllZip (IsStrictEntry version) xs es)
zip-strict Permissive version xs es z = tt
zip-strict Strict version xs es z = zip-as (ReadsSlot Strict version) (IsStrictEntry version) (λ x e h. h.accepted.strict) xs es z

pub zip-accepted : (validation : Validation) (version : Version) (xs : List (List ℕ)) (es : List Entry) → AllZip (IsEntry version) xs es
    → IfStrict validation (AllZip (IsStrictEntry version) xs es) → AllZip (AcceptsEntry validation version) xs es
zip-accepted Permissive version xs es z s =
    zip-as (IsEntry version) (AcceptsEntry Permissive version) (λ x e h. record { entry = h; strict = tt }) xs es z
zip-accepted Strict version xs es z s =
    zip-both (IsEntry version) (IsStrictEntry version) (AcceptsEntry Strict version) (λ x e h k. record { entry = h; strict = k }) xs es z s

-- ---- the length of a stream

pub entry-len_fits : (version : Version) (slot : List ℕ) (e : Entry) → IsEntry version slot e → e.stream_len ≤ max_stream_len version
entry-len_fits version slot e h =
    subst (λ n. n ≤ max_stream_len version) (sym h.stream_len) (read_short e.obj_type (stored_len version slot) (max_stream_len version) (stored_short version slot))
