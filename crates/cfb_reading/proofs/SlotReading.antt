-- The directory, sector by sector (MS-CFB 2.6).
use Rattle.std.proofs.Common.{◌≡◌, ◌≤◌, ◌<◌, ◌+◌, ◌*◌, ◌/◌, ℕ, List, [], ◌∷◌, ◌++◌, Bool, true, refl, sym, ◌∙◌, ap, subst, length, take, arith, append-nil, length-append}
use Rattle.std.specs.Prelude.{IsTrue, flat_map, slice_index, ◌&&◌}
use Rattle.std.specs.List.{AllZip, list_all}
use Rattle.std.proofs.lemmas.Grind.{flat_map-append}
use Rattle.std.proofs.lemmas.List.{take_all, take_more}
use Rattle.std.proofs.lemmas.List.Folds.{list_all-append}
use Rattle.cfb_format.specs.declared.version.Version.{Version}
use Rattle.cfb_format.specs.declared.validate.Validation.{Validation}
use Rattle.cfb_format.specs.Bytes.{entries_per_sector, is_whole_sector}
use Rattle.cfb_format.specs.Chain.{IsChain}
use Rattle.cfb_format.specs.DirectoryEntry.{Entry, AcceptsEntry, slots, slots_of_sector, unallocated_entry}
use Rattle.cfb_format.specs.declared.version.Version.TheVariants.{V3, V4}
use Rattle.cfb_format.specs.Full.{max_entries}
use Rattle.cfb_format.specs.Siblings.{entry_at}
use Rattle.cfb_format.proofs.Unique.{IsChain-unique}
use Rattle.cfb_entries.specs.EntryList.{HaveShortNames}
use Rattle.cfb_reading.specs.ReadDirectory.{AcceptsDirectory, AppendsSlots, AreFromSlots, IsDirectoryChain, NoDirectory, ReadsSlot}
use Rattle.cfb_reading.proofs.AllWhole.{whole-at}
use Rattle.cfb_reading.proofs.Zips.{zip-append, zip-at, zip-length, zip-part}
use Rattle.cfb_reading.proofs.SlotChunks.{entry-len_fits, zip-accepted, zip-entries, zip-strict}
use Rattle.cfb_format.proofs.Slots.{length-slots}

-- what the sectors so far have given: their slots where the medium serves what it holds, and all of them are whole where the file is
-- measured
pub record HasReadSlots (tells : Bool) (measured : Type 0) (validation : Validation) (version : Version) (bytes sectors : List ℕ) (entries : List Entry) : Type 0 where
  pub read : List (List ℕ)
  pub count : length read ≡ length sectors * entries_per_sector version
  pub there : IsTrue tells → read ≡ slots version bytes sectors
  pub each : AllZip (ReadsSlot validation version) read entries
  pub whole : IsTrue tells → measured → list_all (is_whole_sector version bytes) sectors ≡ true

-- and what one more sector has given
abbrev pub ReadsSector : Bool → Validation → Version → List ℕ → ℕ → List Entry → List Entry → Type 0
ReadsSector tells validation version bytes sector old new = (read : List (List ℕ)) × (length read ≡ entries_per_sector version)
    × (IsTrue tells → read ≡ slots_of_sector version bytes sector) × AppendsSlots validation version read old new

module _ (tells : Bool) (measured : Type 0) (validation : Validation) (version : Version) (bytes : List ℕ) where
  pub read-none : HasReadSlots tells measured validation version bytes [] []
  unfolding slots
  read-none = record { read = []; count = omega arith; there = λ _. refl; each = tt; whole = λ _ _. refl }

  read-one : (sectors : List ℕ) (i : ℕ) (old new : List Entry) → ReadsSector tells validation version bytes i old new
      → (IsTrue tells → measured → is_whole_sector version bytes i ≡ true)
      → HasReadSlots tells measured validation version bytes sectors old → HasReadSlots tells measured validation version bytes (sectors ++ i ∷ []) new
  unfolding slots
  read-one sectors i old new more whole h = record {
    read = h.read ++ more.0;
    count =
        length-append h.read more.0 ∙ (λ j. h.count j + more.1 j) ∙ sym (mul-add (length sectors) (entries_per_sector version))
        ∙ ap (λ n. n * entries_per_sector version) (sym (length-append sectors (i ∷ [])));
    there = λ t.
        ap (λ xs. xs ++ more.0) (h.there t) ∙ ap (λ xs. flat_map (slots_of_sector version bytes) sectors ++ xs) (more.2 t ∙ sym (append-nil (slots_of_sector version bytes i)))
        ∙ sym (flat_map-append (slots_of_sector version bytes) sectors (i ∷ []));
    each = subst (λ (es : List Entry). AllZip (ReadsSlot validation version) (h.read ++ more.0) es) (sym more.3.appended)
        (zip-append (ReadsSlot validation version) h.read more.0 old more.3.more h.each more.3.each);
    whole = λ t m. list_all-append (is_whole_sector version bytes) sectors (i ∷ []) ∙ both (h.whole t m) (whole t m);
  }
    where
      both : {a b : Bool} → a ≡ true → b ≡ true → (a && (b && true)) ≡ true
      both p q = λ j. p j && (q j && true)

      mul-add : (n e : ℕ) → (n + 1) * e ≡ n * e + e
      mul-add n e = omega arith

  -- the sector with the next index was read
  pub read-more : (w : Version) (bytes' all : List ℕ) (i : ℕ) (old new : List Entry) → w ≡ version → (IsTrue tells → bytes' ≡ bytes) → i < length all
      → ReadsSector tells validation w bytes' (slice_index all i) old new → (IsTrue tells → measured → is_whole_sector w bytes' (slice_index all i) ≡ true)
      → HasReadSlots tells measured validation version bytes (take i all) old → HasReadSlots tells measured validation version bytes (take (i + 1) all) new
  read-more w bytes' all i old new same_version same lt more whole h =
      let n = slice_index all i in
      let m = subst (λ u. ReadsSector tells validation u bytes' n old new) same_version more in
      subst (λ (xs : List ℕ). HasReadSlots tells measured validation version bytes xs new) (sym (take_more all i 0 lt))
      (read-one (take i all) n old new
      (m.0, m.1, (λ t. m.2 t ∙ ap (λ b. slots_of_sector version b n) (same t)), m.3)
      (λ t k. sym (λ j. is_whole_sector (same_version j) (same t j) n) ∙ whole t k) h)

  -- ---- all of them

  module _ (fat : List ℕ) (start : ℕ) (all : List ℕ) (n : ℕ) (entries : List Entry) (past : length all ≤ n)
      (so_far : HasReadSlots tells measured validation version bytes (take n all) entries) where
    whole_list : HasReadSlots tells measured validation version bytes all entries
    whole_list = subst (λ (xs : List ℕ). HasReadSlots tells measured validation version bytes xs entries) (take_all n all past) so_far

    pub read-accepted : IsDirectoryChain version fat start all → IsTrue tells → measured
        → (sectors : List ℕ) → IsChain fat start sectors → AcceptsDirectory validation version bytes fat start sectors entries
    read-accepted is t m sectors other =
        let h = whole_list in
        subst (λ (list : List ℕ). AcceptsDirectory validation version bytes fat start list entries) (IsChain-unique fat start all sectors is.chain other)
        (record {
          directory = record {
            chain = is.chain;
            some = is.some;
            whole = h.whole t m;
            most = let k = length-slots version bytes all in let few = is.most in omega (arith, k, few);
            slots = zip-entries validation version (slots version bytes all) entries (at_slots h t);
          };
          strict = zip-strict validation version (slots version bytes all) entries (at_slots h t);
        })
      where
        at_slots : HasReadSlots tells measured validation version bytes all entries → IsTrue tells → AllZip (ReadsSlot validation version) (slots version bytes all) entries
        at_slots h t = subst (λ (xs : List (List ℕ)). AllZip (ReadsSlot validation version) xs entries) (h.there t) h.each

    pub read-count : length entries ≡ length all * entries_per_sector version
    read-count = sym (zip-length (ReadsSlot validation version) whole_list.read entries whole_list.each) ∙ whole_list.count

    pub read-short : HaveShortNames entries
    read-short = λ k lt. (zip-at (ReadsSlot validation version) whole_list.read entries k [] unallocated_entry whole_list.each lt).name

    pub read-from_slots : AreFromSlots validation version entries
    read-from_slots = record {
      slot = λ k lt. (_, zip-at (ReadsSlot validation version) whole_list.read entries k [] unallocated_entry whole_list.each lt);
      stream_len = λ k lt.
          entry-len_fits version _ (entry_at entries k) (zip-at (ReadsSlot validation version) whole_list.read entries k [] unallocated_entry whole_list.each lt).accepted.entry;
    }

-- ---- refusals

-- a sector of the chain is cut short, or a slot of it holds no entry
pub no-directory : (validation : Validation) (v w : Version) (bytes bytes' fat : List ℕ) (start : ℕ) (all : List ℕ) (i : ℕ) → IsChain fat start all → i < length all
    → w ≡ v → bytes' ≡ bytes
    → (is_whole_sector w bytes' (slice_index all i) ≡ true → (more : List Entry) → AllZip (AcceptsEntry validation w) (slots_of_sector w bytes' (slice_index all i)) more → ⊥)
    → NoDirectory validation v bytes fat start
unfolding slots
no-directory validation v w bytes bytes' fat start all i chain lt same_version same refused sectors entries h =
    let list : sectors ≡ all = IsChain-unique fat start sectors all h.directory.chain chain in
    let n = slice_index all i in
    let taken = zip-accepted validation v (slots v bytes sectors) entries h.directory.slots h.strict in
    let each = subst (λ (xs : List ℕ). AllZip (AcceptsEntry validation v) (flat_map (slots_of_sector v bytes) xs) entries) list taken in
    let one = zip-part (AcceptsEntry validation v) (slots_of_sector v bytes) all i entries lt each in
    refused
    ((λ j. is_whole_sector (same_version j) (same j) n) ∙ whole-at v bytes all i lt (ap (list_all (is_whole_sector v bytes)) (sym list) ∙ h.directory.whole))
    one.0
    (subst (λ u. AllZip (AcceptsEntry validation u) (slots_of_sector u bytes' n) one.0) (sym same_version)
    (subst (λ (b : List ℕ). AllZip (AcceptsEntry validation v) (slots_of_sector v b n) one.0) (sym same) one.1))

-- the chain has no sector
pub no-sector : (v : Version) (fat : List ℕ) (start : ℕ) (all : List ℕ) → IsChain fat start all → length all ≡ 0 → (sectors : List ℕ) → IsDirectoryChain v fat start sectors → ⊥
no-sector v fat start [] chain none sectors h = h.some (IsChain-unique fat start sectors [] h.chain chain)
no-sector v fat start (i ∷ all) chain none sectors h = absurd (omega (arith, none))

too_many : (v : Version) (n : ℕ) → max_entries / entries_per_sector v < n → n * entries_per_sector v ≤ max_entries → ⊥
too_many V3 n many few = omega (arith, many, few)
too_many V4 n many few = omega (arith, many, few)

-- it has too many
pub too-many-sectors : (v : Version) (fat : List ℕ) (start : ℕ) (all : List ℕ) → IsChain fat start all → max_entries / entries_per_sector v < length all
    → (sectors : List ℕ) → IsDirectoryChain v fat start sectors → ⊥
too-many-sectors v fat start all chain many sectors h =
    too_many v (length sectors) (subst (λ (xs : List ℕ). max_entries / entries_per_sector v < length xs) (IsChain-unique fat start all sectors chain h.chain) many) h.most

-- the chain is not that of a directory
pub miscounted-directory : (validation : Validation) (v : Version) (bytes fat : List ℕ) (start : ℕ)
    → ((sectors : List ℕ) → IsDirectoryChain v fat start sectors → ⊥) → NoDirectory validation v bytes fat start
miscounted-directory validation v bytes fat start none sectors entries h =
    let most = h.directory.most in
    let count = length-slots v bytes sectors in
    none sectors (record { chain = h.directory.chain; some = h.directory.some; most = omega (arith, most, count) })
