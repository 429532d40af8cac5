-- A new entry in a directory that may have grown for it.
use Rattle.std.proofs.Common.{◌≡◌, ◌⊎◌, inl, inr, ℕ, ◌<◌, ◌≤◌, ◌+◌, ◌*◌, ◌/◌, ◌%◌, Bool, List, [], ◌∷◌, true, false, refl, sym, ◌∙◌, ap, subst, length, arith}
use Rattle.std.specs.Prelude.{Contains, Err, IfOk, Ok, OnOk, Result, slice_index, if◌then◌else◌}
use Rattle.std.proofs.lemmas.List.{get_or_append_left}
use Rattle.std.proofs.lemmas.List.Elements.{Contains-append_cases}
use Rattle.cfb_format.specs.declared.error.Error.{Error}
use Rattle.cfb_format.specs.declared.error.Error.TheVariants.{NotFound, AlreadyExists, InvalidInput, InvalidData, Medium, Memory, Full, Unsound, Failed}
use Rattle.cfb_format.specs.declared.objtype.ObjType.{ObjType}
use Rattle.cfb_format.specs.declared.validate.Validation.{Validation}
use Rattle.cfb_format.specs.declared.version.Version.{Version}
use Rattle.cfb_format.specs.declared.version.Version.TheVariants.{V3, V4}
use Rattle.cfb_format.specs.Bytes.{entries_per_sector, free_sector, sector_start, word_at}
use Rattle.cfb_format.specs.Chain.{value}
use Rattle.cfb_format.specs.DirectoryEntry.{Entry}
use Rattle.cfb_format.specs.Medium.{part}
use Rattle.cfb_format.specs.Names.{Cases}
use Rattle.cfb_format.specs.Siblings.{Balanced, entry_at}
use Rattle.cfb_codecs.specs.EntryModel.{new_entry}
use Rattle.cfb_sectors.proofs.WordLemmas.{word_stays}
use Rattle.cfb_directory.specs.cfb_tables.Refused.{ChangeRefused, TableRefused}
use Rattle.cfb_directory.specs.cfb_tables.Tables.{TableState}
use Rattle.cfb_directory.proofs.cfb_tables.Members.{first_of_three}
use Rattle.cfb_alloc.specs.Alloc.{AllocatorState}
use Rattle.cfb_alloc.specs.Frame.{Spares}
use Rattle.cfb_alloc.specs.ListedChain.{Lengthens}
use Rattle.cfb_alloc.proofs.Frames.{spares-then}
use Rattle.cfb_alloc.proofs.Spared.{spares_refl}
use Rattle.cfb_directory.specs.cfb_outline.Outlines.{IsReachedStorage}
use Rattle.cfb_directory.specs.cfb_siblings.Children.{HasChildren, HasRedApart, KeepsBalance}
use Rattle.cfb_directory.specs.cfb_siblings.Laws.{grown_by}
use Rattle.cfb_directory.proofs.cfb_siblings.Grown.{balanced-same, children-same, entry-stays, length-grows, red-apart-same}
use Rattle.cfb_entries.specs.declared.insertion.Insertion.{Insertion}
use Rattle.cfb_entries.specs.EntryList.{InsertsEntry, has_free}
use Rattle.cfb_entries.specs.Insertions.{IsInsertionOf}
use Rattle.cfb_entries.proofs.Contents.{insertion-stays, reached-stays}
use Rattle.cfb_directory.specs.Growing.{ArePlaced, IsListedChain}
use Rattle.cfb_directory.specs.Inserting.{InsertsObject, SparesRest, WritesDirectory}
use Rattle.cfb_slots.specs.Slots.{slot_of}
use Rattle.cfb_directory.specs.State.{DirectoryState, HoldsDirectory, IsFullForEntry, IsKeptHeaderByte, KeepsDirectoryLimits, directory_bytes, directory_tables, directory_version, with_room}
use Rattle.cfb_directory.specs.Steps.{IsDirectoryNotHeld, StaysRedApart}
use Rattle.cfb_slots.proofs.SlotPlaces.{slot_sector}
use Rattle.cfb_directory.proofs.Placed.{held_places}
use Rattle.cfb_directory.proofs.InsertGrow.{one-gained}

-- ---- entries with room

-- what holds of the entries, and of them with more that are not used, holds of them with room
pub has-room : (P : List Entry → Type 0) (b : Bool) (entries : List Entry) (per : ℕ) → P entries → P (grown_by entries per) → P (if b then entries else grown_by entries per)
has-room P true entries per same grown = same
has-room P false entries per same grown = grown

module _ (d : DirectoryState) (entries : List Entry) (is : entries ≡ with_room d) where
  roomy : (P : List Entry → Type 0) → P d.entries → P (grown_by d.entries (entries_per_sector (directory_version d))) → P entries
  roomy P same grown = subst P (sym is) (has-room P (has_free d.entries) d.entries (entries_per_sector (directory_version d)) same grown)

  pub roomy-same : (k : ℕ) → entry_at entries k ≡ entry_at d.entries k
  roomy-same k = roomy (λ es. entry_at es k ≡ entry_at d.entries k) refl
      (entry-stays d.entries (entries_per_sector (directory_version d)) k)

  pub roomy-longer : length d.entries ≤ length entries
  roomy-longer = roomy (λ es. length d.entries ≤ length es) (omega arith) (length-grows d.entries (entries_per_sector (directory_version d)))

  pub roomy-reached : (parent : ℕ) → IsReachedStorage d.cases d.entries parent → IsReachedStorage d.cases entries parent
  roomy-reached parent r = roomy (λ es. IsReachedStorage d.cases es parent) r (reached-stays d.cases d.entries (entries_per_sector (directory_version d)) parent r)

  pub roomy-insertion : {A : Type 0} (name : List ℕ) (parent : ℕ) (insertion : Insertion A) → IsInsertionOf name d.cases d.entries parent insertion
      → IsInsertionOf name d.cases entries parent insertion
  roomy-insertion name parent insertion h = roomy (λ es. IsInsertionOf name d.cases es parent insertion) h
      (insertion-stays name d.cases d.entries (entries_per_sector (directory_version d)) parent insertion h)

  pub roomy-children : (parent : ℕ) (list : List ℕ) → HasChildren d.cases d.entries parent list → HasChildren d.cases entries parent list
  roomy-children parent list h = children-same d.entries entries roomy-same roomy-longer d.cases parent list h

  pub roomy-balance : (new : List Entry) (parent : ℕ) → KeepsBalance entries new parent → KeepsBalance d.entries new parent
  roomy-balance new parent keeps black bal = keeps black
      (subst (λ (e : Entry). Balanced entries e.child black) (sym (roomy-same parent))
      (balanced-same d.entries entries roomy-same roomy-longer (entry_at d.entries parent).child black bal))

  pub roomy-red-apart : (parent : ℕ) (list : List ℕ) → HasRedApart d.entries parent list → HasRedApart entries parent list
  roomy-red-apart parent list h = red-apart-same d.entries entries roomy-same parent list h

-- ---- sectors

-- the directory's sectors after a growth are those of before and free ones
pub gained-free : (before after : List ℕ) (old new : TableState) → (after ≡ before) ⊎ Lengthens 1 before after old new → (i : ℕ) → Contains after i → (value old.fat i ≡ free_sector) ⊎ Contains before i
gained-free before after old new (inl same) i m = inr (subst (λ l. Contains l i) same m)
gained-free before after old new (inr h) i m =
    let (x, gained, listed) = one-gained before after old new h in
    elim (Contains-append_cases before (x ∷ []) i (subst (λ l. Contains l i) listed m)) [
      | inl a ↦ inr a
      | inr a ↦ inl (h.taken.fresh i (first_of_three _ h.taken.fats h.taken.difats i (subst (λ l. Contains l i) (sym gained) a)))
    ]

pub put-spares : (before after : List ℕ) (a b c : AllocatorState) → (after ≡ before) ⊎ Lengthens 1 before after a.tables b.tables → Spares before a b → Spares after b c → Spares before a c
put-spares before after a b c how first second = spares-then before after a b c (gained-free before after a.tables b.tables how) first second

-- ---- the slots

-- a slot of the old sectors is one of the new ones
pub same-slot : (before after : List ℕ) (old new : TableState) (v : Version) (bytes : List ℕ) (n k : ℕ) → (after ≡ before) ⊎ Lengthens 1 before after old new
    → n ≡ length before * entries_per_sector v → k < n → slot_of v bytes after k ≡ slot_of v bytes before k
same-slot before after old new v bytes n k (inl same) count lt = ap (λ (l : List ℕ). slot_of v bytes l k) same
same-slot before after old new v bytes n k (inr h) count lt =
    let (x, gained, listed) = one-gained before after old new h in
    ap (λ (l : List ℕ). slot_of v bytes l k) listed
    ∙ ap (λ s. part bytes (sector_start v s + k % entries_per_sector v * 128) 128)
    (get_or_append_left before (x ∷ []) 0 (k / entries_per_sector v) (slot_sector v k (length before) (omega (arith, lt, count))))

-- ---- refusals

-- a directory that is held has its places
pub unplaced-not-held : (d : DirectoryState) → (ArePlaced d → ⊥) → IsDirectoryNotHeld d
unplaced-not-held d none validation held = none (held_places validation d held)

pub checked-refused : (P Q F : Type 0) (M : Type 0) → (P → Q) → (e : Error) → TableRefused P ⊥ F e → ChangeRefused Q M F (Unit {0}) e
checked-refused P Q F M f (NotFound d) h = h
checked-refused P Q F M f (AlreadyExists d) h = h
checked-refused P Q F M f (InvalidInput d) h = h
checked-refused P Q F M f (InvalidData d) h = f h
checked-refused P Q F M f (Medium m) h = absurd h
checked-refused P Q F M f Memory h = absurd h
checked-refused P Q F M f Full h = h
checked-refused P Q F M f Unsound h = h
checked-refused P Q F M f Failed h = h

-- ---- the way there

-- where a test decides between two facts, one of them holds
pub which-way : (b : Bool) (P Q : Type 0) → (b ≡ true → P) → (b ≡ false → Q) → P ⊎ Q
which-way true P Q f g = inl (f refl)
which-way false P Q f g = inr (g refl)

-- the word that counts the sectors stays where the header's bytes do
pub header-word-kept : (old new : List ℕ) → length old ≤ length new → 44 ≤ length old → ((i : ℕ) → i < 512 → i < length old → slice_index new i ≡ slice_index old i)
    → word_at new 40 ≡ word_at old 40
header-word-kept old new longer long same =
    word_stays 0 512 40 old new (record { no_shorter = longer; each = λ i lt from to. same i to lt }) (omega arith) (omega arith) long

pub kept-is-low : (v : Version) (i : ℕ) → IsKeptHeaderByte v i → i < 512
kept-is-low V3 i (inl low) = omega (arith, low)
kept-is-low V3 i (inr high) = let below = high.1 in omega (arith, below)
kept-is-low V4 i (inl low) = omega (arith, low)
kept-is-low V4 i (inr high) = let below = high.1 in omega (arith, below)

-- ---- the whole

-- first there was room, and then an entry of that name was put
module _ (old mid new : DirectoryState) (is : mid.entries ≡ with_room old) (limits : KeepsDirectoryLimits old mid) (same : directory_tables new ≡ directory_tables mid)
    (parent : ℕ) (put name : List ℕ) (named : put ≡ name) (kind : ObjType) (moment : ℕ) where
  pub inserts-whole : {E : Type 0} (r : Result ℕ E) → IfOk r (λ n. InsertsEntry mid.cases mid.entries new.entries parent n (new_entry put kind moment))
      → OnOk r (KeepsBalance mid.entries new.entries parent) → OnOk r (StaysRedApart mid new parent) → (IsFullForEntry old → ⊥)
      → (has_free old.entries ≡ false → Lengthens 1 old.sectors new.sectors (directory_tables old) (directory_tables mid))
      → (IsListedChain (directory_tables old) old.sectors → IsListedChain (directory_tables mid) new.sectors) → new.table.file.begun ≡ true
      → IfOk r (λ n. InsertsObject old new parent n name kind moment)
  inserts-whole (Err e) entry balanced apart enough lengthened chain begun = tt
  inserts-whole (Ok n) entry balanced apart enough lengthened chain begun = record {
    entry = subst (λ (l : List ℕ). InsertsEntry old.cases (with_room old) new.entries parent n (new_entry l kind moment)) named
        (subst (λ (es : List Entry). InsertsEntry old.cases es new.entries parent n (new_entry put kind moment)) is
        (subst (λ (cs : Cases). InsertsEntry cs mid.entries new.entries parent n (new_entry put kind moment)) limits.cases entry));
    balanced = roomy-balance old mid.entries is new.entries parent balanced;
    red_apart = λ list children was.
        apart list (subst (λ (cs : Cases). HasChildren cs mid.entries parent list) (sym limits.cases) (roomy-children old mid.entries is parent list children))
        (roomy-red-apart old mid.entries is parent list was);
    enough = enough;
    lengthened = λ none. subst (λ (t : TableState). Lengthens 1 old.sectors new.sectors (directory_tables old) t) (sym same) (lengthened none);
    chain = λ listed. subst (λ (t : TableState). IsListedChain t new.sectors) (sym same) (chain listed);
    begun = begun;
  }

pub writes-whole : {T E : Type 0} (r : Result T E) (old new : DirectoryState)
    → ((validation : Validation) → HoldsDirectory validation old → OnOk r (HoldsDirectory validation new))
    → (directory_version old ≡ V4 → has_free old.entries ≡ false → word_at (directory_bytes new) 40 ≡ length new.sectors) → OnOk r (WritesDirectory old new)
writes-whole (Err e) old new holds count = tt
writes-whole (Ok x) old new holds count = record { holds = holds; count = count }

-- where nothing has changed, all stays
pub rest-same : (d : DirectoryState) (parent : ℕ) → SparesRest d d parent
rest-same d parent = record {
  spares = spares_refl d.sectors d.table;
  header = λ i lt kept. refl;
  header_kept = λ free i low lt. refl;
  slots = λ validation held list children k lt used no_parent out. refl;
}
