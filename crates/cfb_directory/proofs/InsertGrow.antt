-- A directory that gets a sector of unallocated entries.
use Rattle.std.proofs.Common.{◌≡◌, ◌≢◌, ◌⊎◌, inl, inr, ℕ, ◌<◌, ◌≤◌, ◌+◌, ◌-◌, ◌*◌, ◌^◌, List, [], ◌∷◌, ◌++◌, refl, sym, ◌∙◌, ap, subst, length, replicate, arith, length-append}
use Rattle.std.specs.Prelude.{Contains, slice_index}
use Rattle.std.proofs.lemmas.Bool.{cases_eq}
use Rattle.std.proofs.lemmas.List.{length-replicate}
use Rattle.std.proofs.lemmas.List.Elements.{Contains-append_cases, Contains-get_or}
use Rattle.cfb_format.specs.declared.version.Version.{Version}
use Rattle.cfb_format.specs.declared.version.Version.TheVariants.{V3, V4}
use Rattle.cfb_format.specs.declared.validate.Validation.{Validation}
use Rattle.cfb_format.specs.declared.validate.Validation.TheVariants.{Permissive, Strict}
use Rattle.cfb_format.specs.declared.objtype.ObjType.TheVariants.{Unallocated}
use Rattle.cfb_format.specs.Bytes.{end_of_chain, entries_per_sector, sector_len, sector_start, word_at}
use Rattle.cfb_format.specs.Chain.{value}
use Rattle.cfb_format.specs.DirectoryEntry.{Entry, EntryFits, IsValidEntry, unallocated_entry}
use Rattle.cfb_format.specs.Header.{IfStrict, IsStrictHeader}
use Rattle.cfb_format.specs.Medium.{ChangesOnlyBytes}
use Rattle.cfb_format.specs.Reading.{IsStrictCount}
use Rattle.cfb_format.specs.Refused.{AfterMedium}
use Rattle.cfb_format.specs.Siblings.{entry_at}
use Rattle.cfb_format.proofs.ByteLemmas.{part_apart}
use Rattle.cfb_sectors.specs.declared.sector.SectorInit.TheVariants.{Dir}
use Rattle.cfb_sectors.specs.Sectors.{IsMediumError}
use Rattle.cfb_sectors.specs.Words.{RangeStays}
use Rattle.cfb_sectors.proofs.SectorLemmas.{SectorStays_next, after_header}
use Rattle.cfb_sectors.proofs.WordLemmas.{word_stays}
use Rattle.cfb_directory.specs.cfb_tables.Listed.{ends_of, gained, last_or_end}
use Rattle.cfb_directory.specs.cfb_tables.Tables.{TableState, AreSizes, ending, first_or_end, sizes_of}
use Rattle.cfb_directory.proofs.cfb_tables.ChainLemmas.{members-busy}
use Rattle.cfb_directory.proofs.cfb_tables.ListedLemmas.{ending_other, last_is}
use Rattle.cfb_alloc.specs.Agreement.{HasSectors, KeepsSectors}
use Rattle.cfb_format.specs.declared.error.Error.{Error}
use Rattle.cfb_format.specs.declared.error.Error.TheVariants.{NotFound, AlreadyExists, InvalidInput, InvalidData, Medium, Memory, Full, Unsound, Failed}
use Rattle.cfb_alloc.specs.Alloc.{AllocatorState, HoldsTables, IsAsFilled, IsOtherHeaderByte, IsUsable, OthersStay}
use Rattle.cfb_alloc.specs.Frame.{Spares}
use Rattle.cfb_alloc.specs.ListedChain.{Lengthens}
use Rattle.cfb_alloc.proofs.Frames.{spares-less, spares-then}
use Rattle.cfb_alloc.proofs.HeldOrder.{held-usable, members-no_table}
use Rattle.cfb_directory.specs.cfb_siblings.Laws.{grown_by}
use Rattle.cfb_directory.proofs.cfb_siblings.Grown.{entry-stays}
use Rattle.cfb_format.specs.Full.{max_entries}
use Rattle.cfb_entries.specs.EntryList.{EntryList}
use Rattle.cfb_directory.specs.Steps.{IsDirectoryNotHeld}
use Rattle.cfb_directory.specs.Growing.{ArePlaced, AreSectorsOf, IsListedChain, KeepsBounds}
use Rattle.cfb_slots.specs.Slots.{HavePlaces, HoldSlotsBut, slot_of}
use Rattle.cfb_directory.specs.State.{AreWritable, DirectoryState, HoldsDirectory, IsKeptHeaderByte, directory_bytes, directory_tables, directory_version}
use Rattle.cfb_slots.proofs.SlotPlaces.{slot_stays}
use Rattle.cfb_slots.proofs.SlotWrites.{fresh-held, slots-stay}
use Rattle.cfb_directory.proofs.Placed.{header_there}
use Rattle.cfb_directory.proofs.InsertLinks.{used-inside}
use Rattle.cfb_format.proofs.Members.{Contains-one, Contains-nil}

-- ---- lists

one-of : (xs : List ℕ) → length xs ≡ 1 → (x : ℕ) × (xs ≡ x ∷ [])
one-of [] e = absurd (omega (arith, e))
one-of (x ∷ []) e = (x, refl)
one-of (x ∷ y ∷ xs) e = absurd (omega (arith, e))

-- one sector came behind the others
pub one-gained : (before after : List ℕ) (old new : TableState) → Lengthens 1 before after old new → (x : ℕ) × (gained before after ≡ x ∷ []) × (after ≡ before ++ x ∷ [])
one-gained before after old new h = let (x, e) = one-of (gained before after) h.count in (x, e, h.listed ∙ ap (λ (l : List ℕ). before ++ l) e)

ending-among : (y : ℕ) (list : List ℕ) → (y ≢ end_of_chain → Contains list y) → (i : ℕ) → Contains (ending y) i → Contains list i
ending-among y list has i m = elim (cases_eq y end_of_chain) [
  | inl e ↦ let none : Contains (ending end_of_chain) i = subst (λ k. Contains (ending k) i) e m in absurd (Contains-nil i none)
  | inr ne ↦ subst (λ k. Contains list k) (Contains-one y i (subst (λ l. Contains l i) (ending_other y ne) m)) (has ne)
]

-- where a list ends is a member of it
pub ends-among : (list : List ℕ) (i : ℕ) → Contains (ends_of list) i → Contains list i
ends-among [] i m = m
ends-among (x ∷ xs) i m = ending-among (last_or_end (x ∷ xs)) (x ∷ xs) (λ ne. Contains-get_or (x ∷ xs) (length (x ∷ xs) - 1) end_of_chain (omega arith)) i m

-- ---- bytes that stay

module _ (validation : Validation) (old : DirectoryState) (held : HoldsDirectory validation old) (b : AllocatorState) (others : OthersStay old.table b)
    (new : List ℕ) (change : ChangesOnlyBytes 40 4 b.file.bytes new) where
  abbrev v : Version
  v = directory_version old

  longer : length (directory_bytes old) ≤ length new
  longer = let x = others.no_shorter in let y = change.no_shorter in omega (arith, x, y)

  pub sectors-kept : KeepsSectors v old.sectors (directory_bytes old) new
  sectors-kept i m =
      let busy = (members-busy (directory_tables old).fat (first_or_end old.sectors) old.sectors held.chain i m) in
      let apart = members-no_table validation old.table (first_or_end old.sectors) old.sectors held.tables held.chain i m in
      SectorStays_next (directory_version old) (directory_version old) i (directory_bytes old) b.file.bytes new refl
      (others.sectors i busy.0 (λ t. elim (Contains-append_cases (directory_tables old).fat_sectors (directory_tables old).difat_sectors i t) [ inl f ↦ apart.0 f | inr d ↦ apart.1 d ]) (Contains-nil i))
      (after_header (directory_version old) i 40 4 b.file.bytes new change (omega arith))

  pub slots-kept : (entries : List Entry) → length entries ≡ length old.sectors * entries_per_sector (directory_version old) → (k : ℕ) → k < length entries
      → slot_of (directory_version old) new old.sectors k ≡ slot_of (directory_version old) (directory_bytes old) old.sectors k
  slots-kept entries count k lt = slot_stays (directory_version old) (directory_bytes old) new old.sectors k held.whole sectors-kept (omega (arith, lt, count))

-- ---- the longer directory is held

filled-stays : (v : Version) (a b : List ℕ) (x : ℕ) → ChangesOnlyBytes 40 4 a b → IsAsFilled v Dir a x → IsAsFilled v Dir b x
filled-stays v a b x change f = record {
  whole = let w = f.whole in let l = change.no_shorter in omega (arith, w, l);
  filled = part_apart 40 4 (sector_start v x) (sector_len v) a b change f.whole (λ low. behind v x) ∙ f.filled;
}
  where
    behind : (v : Version) (x : ℕ) → 40 + 4 ≤ sector_start v x
    behind V3 x = omega arith
    behind V4 x = omega arith

header-word : (version : Version) (old a b : AllocatorState) (at : ℕ) → OthersStay old a → ChangesOnlyBytes 40 4 a.file.bytes b.file.bytes → 44 ≤ at → 48 ≤ at → at + 4 ≤ 68
    → at + 4 ≤ length old.file.bytes → word_at b.file.bytes at ≡ word_at old.file.bytes at
header-word version old a b at others change _ low high within =
    let longer = others.no_shorter in
    let first : RangeStays 48 68 old.file.bytes a.file.bytes = record { no_shorter = longer; each = λ i lt from to. others.header i lt (inr (inl (from, to))) } in
    let second : RangeStays 48 68 a.file.bytes b.file.bytes = record { no_shorter = change.no_shorter; each = λ i lt from to. change.above i lt (omega (arith, from)) } in
    word_stays 48 68 at a.file.bytes b.file.bytes second low high (omega (arith, within, longer)) ∙ word_stays 48 68 at old.file.bytes a.file.bytes first low high within

-- the word behind which version 3 has nothing
low-word : (old a : AllocatorState) → OthersStay old a → 44 ≤ length old.file.bytes → word_at a.file.bytes 40 ≡ word_at old.file.bytes 40
low-word old a others within =
    word_stays 40 44 40 old.file.bytes a.file.bytes (record { no_shorter = others.no_shorter; each = λ i lt from to. others.header i lt (inl to) }) (omega arith) (omega arith) within

counted-after : (validation : Validation) (v : Version) (word count : ℕ) → (v ≡ V4 → word ≡ count) → IfStrict validation (IsStrictCount v word count)
counted-after Permissive v word count is = tt
counted-after Strict V3 word count is = tt
counted-after Strict V4 word count is = omega (arith, is refl)

strict-after : (validation : Validation) (v : Version) (old new : List ℕ) → (v ≡ V3 → word_at new 40 ≡ word_at old 40) → IfStrict validation (IsStrictHeader v old) → IfStrict validation (IsStrictHeader v new)
strict-after Permissive v old new same h = tt
strict-after Strict V3 old new same h = same refl ∙ h
strict-after Strict V4 old new same h = tt

first-stays : (before : List ℕ) (x : ℕ) → before ≢ [] → first_or_end (before ++ x ∷ []) ≡ first_or_end before
first-stays [] x some = absurd (some refl)
first-stays (y ∷ ys) x some = refl

not-empty : (before : List ℕ) (x : ℕ) (after : List ℕ) → after ≡ before ++ x ∷ [] → after ≢ []
not-empty before x after is none =
    let same : length after ≡ length before + 1 = ap (λ (l : List ℕ). length l) is ∙ length-append before (x ∷ []) in
    let zero_long : length after ≡ 0 = ap (λ (l : List ℕ). length l) none in
    omega (arith, same, zero_long)

-- the word of a sector was added behind a directory that was held, and its number was written
module _ (validation : Validation) (old new : DirectoryState) (b : AllocatorState) (held : HoldsDirectory validation old)
    (lengthened : Lengthens 1 old.sectors new.sectors (directory_tables old) b.tables) (chain : IsListedChain b.tables new.sectors) (bounds : KeepsBounds (directory_tables old) b.tables)
    (sizes : AreSizes b.tables.version (sizes_of b.tables))
    (filled : (i : ℕ) → Contains (gained old.sectors new.sectors) i → IsAsFilled b.tables.version Dir b.file.bytes i) (others : OthersStay old.table b)
    (tables : directory_tables new ≡ b.tables) (same3 : b.tables.version ≡ V3 → new.table ≡ b) (count4 : b.tables.version ≡ V4 → word_at (directory_bytes new) 40 ≡ length new.sectors)
    (holds : HoldsTables validation new.table) (change : ChangesOnlyBytes 40 4 b.file.bytes (directory_bytes new))
    (entries : new.entries ≡ grown_by old.entries (entries_per_sector (directory_version old))) (few : length new.entries ≤ max_entries) where
  abbrev w : Version
  w = directory_version old

  version-same : directory_version new ≡ w
  version-same = ap (λ (t : TableState). t.version) tables ∙ bounds.version

  abbrev x : ℕ
  x = (one-gained old.sectors new.sectors (directory_tables old) b.tables lengthened).0

  listed : new.sectors ≡ old.sectors ++ x ∷ []
  listed = (one-gained old.sectors new.sectors (directory_tables old) b.tables lengthened).2

  fresh : IsAsFilled w Dir (directory_bytes new) x
  fresh = filled-stays w b.file.bytes (directory_bytes new) x change
      (subst (λ (u : Version). IsAsFilled u Dir b.file.bytes x) bounds.version
      (filled x (subst (λ l. Contains l x) (sym (one-gained old.sectors new.sectors (directory_tables old) b.tables lengthened).1) (0, omega arith, refl))))

  grown-whole : HasSectors w (directory_bytes new) new.sectors
  grown-whole i m = elim (Contains-append_cases old.sectors (x ∷ []) i (subst (λ l. Contains l i) listed m)) [
    | inl a ↦ let was = held.whole i a in let l = longer validation old held b others (directory_bytes new) change in omega (arith, was, l)
    | inr a ↦ subst (λ k. sector_start w k + sector_len w ≤ length (directory_bytes new)) (Contains-one x i a) fresh.whole
  ]

  grown-slots : HoldSlotsBut [] validation w (directory_bytes new) new.sectors new.entries
  grown-slots =
      let stayed = slots-stay [] validation w (directory_bytes old) (directory_bytes new) old.sectors old.entries held.slots held.whole (sectors-kept validation old held b others (directory_bytes new) change) in
      let more = fresh-held [] validation w (directory_bytes new) old.sectors old.entries x stayed fresh in
      subst (λ (l : List ℕ). HoldSlotsBut [] validation w (directory_bytes new) l new.entries) (sym listed)
      (subst (λ (es : List Entry). HoldSlotsBut [] validation w (directory_bytes new) (old.sectors ++ x ∷ []) es) (sym entries) more)

  grown-writable : AreWritable w new.entries
  grown-writable k lt used =
      let same : entry_at new.entries k ≡ entry_at old.entries k = ap (λ (es : List Entry). entry_at es k) entries ∙ entry-stays old.entries (entries_per_sector w) k in
      let used_before : (entry_at old.entries k).obj_type ≢ Unallocated = λ e. used (ap (λ (z : Entry). z.obj_type) same ∙ e) in
      subst (λ (z : Entry). EntryFits z × IsValidEntry w z) (sym same)
      (held.writable k (used-inside old.entries k used_before) used_before)

  pub grown-holds : HoldsDirectory validation new
  grown-holds =
      let long = (header_there w (directory_bytes old) old.sectors held.some held.whole).0 in
      let v_new = sym version-same in
      record {
        tables = holds;
        sizes = subst (λ (t : TableState). AreSizes t.version (sizes_of t)) (sym tables) sizes;
        chain = subst (λ (t : TableState). IsListedChain t new.sectors) (sym tables) chain;
        some = not-empty old.sectors x new.sectors listed;
        whole = subst (λ (u : Version). HasSectors u (directory_bytes new) new.sectors) v_new grown-whole;
        first = header-word w old.table b new.table 48 others change (omega arith) (omega arith) (omega arith) (omega (arith, long)) ∙ held.first
            ∙ sym (ap first_or_end listed ∙ first-stays old.sectors x held.some);
        slots = subst (λ (u : Version). HoldSlotsBut [] validation u (directory_bytes new) new.sectors new.entries) v_new grown-slots;
        writable = subst (λ (u : Version). AreWritable u new.entries) v_new grown-writable;
        most = few;
        counted = counted-after validation (directory_version new) (word_at (directory_bytes new) 40) (length new.sectors) (λ e. count4 (sym (ap (λ (t : TableState). t.version) tables) ∙ e));
        strict_header = subst (λ (u : Version). IfStrict validation (IsStrictHeader u (directory_bytes new))) v_new
            (strict-after validation w (directory_bytes old) (directory_bytes new)
            (λ e. ap (λ (a : AllocatorState). word_at a.file.bytes 40) (same3 (bounds.version ∙ e)) ∙ low-word old.table b others (omega (arith, long)))
            held.strict_header);
      }

-- ---- places, headers and frames of a directory that grows

pub grown-entries : (got : List Entry) (list old : EntryList) (n per : ℕ) → got ≡ grown_by list.entries n → list.entries ≡ old.entries → n ≡ per → got ≡ grown_by old.entries per
grown-entries got list old n per is same len = is ∙ ap (λ (es : List Entry). grown_by es n) same ∙ ap (λ m. grown_by old.entries m) len

pub grown-placed : (old : DirectoryState) (b e : AllocatorState) (after : List ℕ) (entries : List Entry) → ArePlaced old → Lengthens 1 old.sectors after (directory_tables old) b.tables
    → KeepsBounds (directory_tables old) b.tables → AreSectorsOf b.tables after → entries ≡ grown_by old.entries (entries_per_sector (directory_version old)) → e.tables ≡ b.tables
    → HavePlaces e.tables.version after (length entries) (length e.tables.fat)
grown-placed old b e after entries placed lengthened bounds within is same =
    let per = entries_per_sector (directory_version old) in
    let count : length entries ≡ length old.entries + per = ap (λ (l : List Entry). length l) is ∙ length-append old.entries (replicate per unallocated_entry)
    ∙ ap (λ n. length old.entries + n) (length-replicate per unallocated_entry) in
    let sectors : length after ≡ length old.sectors + 1 = ap (λ (l : List ℕ). length l) (one-gained old.sectors after (directory_tables old) b.tables lengthened).2
    ∙ length-append old.sectors ((one-gained old.sectors after (directory_tables old) b.tables lengthened).0 ∷ []) in
    let slots = placed.slots in
    let whole : length entries ≡ length after * per = count ∙ ap (λ n. n + per) slots ∙ more (directory_version old) (length old.sectors) ∙ ap (λ n. n * per) (sym sectors) in
    let v_new : directory_version old ≡ e.tables.version = sym (ap (λ (t : TableState). t.version) same ∙ bounds.version) in
    record {
      slots = subst (λ (u : Version). length entries ≡ length after * entries_per_sector u) v_new whole;
      within = λ i m. subst (λ (t : TableState). i < length t.fat) (sym same) (within i m);
    }
  where
    more : (v : Version) (n : ℕ) → n * entries_per_sector v + entries_per_sector v ≡ (n + 1) * entries_per_sector v
    more V3 n = omega arith
    more V4 n = omega arith

-- the number of sectors fits into a word
pub few-sectors : (v : Version) (sectors : List ℕ) (n count : ℕ) → HavePlaces v sectors n count → n ≤ max_entries → length sectors < 2 ^ 32
few-sectors V3 sectors n count h few = let s = h.slots in omega (arith, s, few)
few-sectors V4 sectors n count h few = let s = h.slots in omega (arith, s, few)

pub grown-spares : (sectors : List ℕ) (a b e : AllocatorState) → Spares (ends_of sectors) a b → Spares [] b e → Spares sectors a e
grown-spares sectors a b e first second = spares-then sectors [] a b e (λ i m. absurd (Contains-nil i m)) (spares-less (ends_of sectors) sectors a b (ends-among sectors) first) second

kept-byte : (v : Version) (a b e : AllocatorState) (i : ℕ) → IsKeptHeaderByte v i → i < length a.file.bytes → length a.file.bytes ≤ length b.file.bytes
    → ((i < 44) ⊎ ((48 ≤ i) × (i < 68)) → slice_index b.file.bytes i ≡ slice_index a.file.bytes i)
    → (v ≡ V3 → e ≡ b) → ChangesOnlyBytes 40 4 b.file.bytes e.file.bytes → slice_index e.file.bytes i ≡ slice_index a.file.bytes i
kept-byte V3 a b e i kept lt longer first same change = ap (λ (x : AllocatorState). slice_index x.file.bytes i) (same refl) ∙ first kept
kept-byte V4 a b e i (inl low) lt longer first same change = change.below i (omega (arith, lt, longer)) low ∙ first (inl (omega (arith, low)))
kept-byte V4 a b e i (inr high) lt longer first same change = let from = high.0 in change.above i (omega (arith, lt, longer)) (omega (arith, from)) ∙ first (inr high)

pub grown-header : (a b e : AllocatorState) → OthersStay a b → (a.tables.version ≡ V3 → e ≡ b) → ChangesOnlyBytes 40 4 b.file.bytes e.file.bytes
    → (i : ℕ) → i < length a.file.bytes → IsKeptHeaderByte a.tables.version i → slice_index e.file.bytes i ≡ slice_index a.file.bytes i
grown-header a b e others same change i lt kept =
    kept-byte a.tables.version a b e i kept lt others.no_shorter (λ low. others.header i lt (other low)) same change
  where
    other : (i < 44) ⊎ ((48 ≤ i) × (i < 68)) → IsOtherHeaderByte a.tables.version i
    other (inl low) = inl low
    other (inr high) = inr (inl high)

-- ---- refusals

-- where the directory is held, its chain can be lengthened
pub lengthens-held : (d : DirectoryState) → (IsUsable (directory_tables d) → ⊥) ⊎ ((last_or_end d.sectors ≢ end_of_chain) × (value (directory_tables d).fat (last_or_end d.sectors) ≢ end_of_chain)) → IsDirectoryNotHeld d
lengthens-held d (inl unusable) validation held = unusable (held-usable validation d.table held.tables)
lengthens-held d (inr goes_on) validation held = goes_on.1 (last_is (directory_tables d).fat (first_or_end d.sectors) d.sectors held.chain (some d.sectors held.some)).0
  where
    some : (list : List ℕ) → list ≢ [] → 0 < length list
    some [] ne = absurd (ne refl)
    some (x ∷ xs) ne = omega arith

-- after the medium's error what was begun is known
pub medium-broke : (broken kept : Type 0) → broken → (e : Error) → IsMediumError e → AfterMedium broken kept e
medium-broke broken kept b (NotFound d) is = absurd (omega (arith, is))
medium-broke broken kept b (AlreadyExists d) is = absurd (omega (arith, is))
medium-broke broken kept b (InvalidInput d) is = absurd (omega (arith, is))
medium-broke broken kept b (InvalidData d) is = absurd (omega (arith, is))
medium-broke broken kept b (Medium m) is = b
medium-broke broken kept b Memory is = absurd (omega (arith, is))
medium-broke broken kept b Full is = absurd (omega (arith, is))
medium-broke broken kept b Unsound is = absurd (omega (arith, is))
medium-broke broken kept b Failed is = absurd (omega (arith, is))

-- how many entries there are then
pub grown-many : (entries got : List Entry) (per : ℕ) → got ≡ grown_by entries per → length entries + per ≤ max_entries → length got ≤ max_entries
grown-many entries got per is few =
    let count : length got ≡ length entries + per = ap (λ (l : List Entry). length l) is ∙ length-append entries (replicate per unallocated_entry)
    ∙ ap (λ n. length entries + n) (length-replicate per unallocated_entry) in
    omega (arith, count, few)
