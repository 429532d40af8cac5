-- The links of a storage's children and what else an insertion sets can be written.
use Rattle.std.proofs.Common.{◌≡◌, ◌≢◌, ◌⊎◌, inl, inr, ℕ, ◌<◌, ◌≤◌, ◌^◌, List, [], ◌∷◌, ◌++◌, true, refl, sym, ◌∙◌, ap, subst, length, arith}
use Rattle.std.specs.Prelude.{Contains, IsTrue}
use Rattle.std.specs.Str.{all_scalars}
use Rattle.std.proofs.lemmas.Bool.{cases_eq}
use Rattle.std.proofs.lemmas.List.Elements.{Contains-append_cases, Contains-append_left, Contains-append_right}
use Rattle.cfb_format.specs.declared.version.Version.{Version}
use Rattle.cfb_format.specs.declared.version.Version.TheVariants.{V3, V4}
use Rattle.cfb_format.specs.declared.objtype.ObjType.{ObjType}
use Rattle.cfb_format.specs.declared.objtype.ObjType.TheVariants.{Unallocated, Storage, Stream, Root}
use Rattle.cfb_format.specs.Bytes.{is_regular, no_stream, stream_len_modulus}
use Rattle.cfb_format.specs.Names.{Cases, is_valid_name}
use Rattle.cfb_format.specs.DirectoryEntry.{Entry, EntryFits, IsValidEntry, is_entry_link}
use Rattle.cfb_format.specs.Reading.{Outline, no_more, storage_at, stream_at, HasContents, siblings, numbers}
use Rattle.cfb_format.specs.Siblings.{SiblingTree, leaf, node, HangsAt, in_order, entry_at}
use Rattle.cfb_codecs.specs.EntryModel.{new_entry}
use Rattle.cfb_directory.specs.cfb_outline.Outlines.{IsReachedStorage}
use Rattle.cfb_directory.proofs.cfb_outline.Insides.{below-same, present, storage-is-inside, first-or-later}
use Rattle.cfb_directory.specs.cfb_siblings.Children.{ButChild, HasChildren, HasInserted}
use Rattle.cfb_directory.specs.cfb_siblings.Way.{unlinked}
use Rattle.cfb_format.specs.Full.{max_entries}
use Rattle.cfb_entries.specs.EntryList.{InsertsEntry}
use Rattle.cfb_directory.specs.State.{AreWritable}
use Rattle.cfb_format.proofs.Walks.{le-regular}
use Rattle.cfb_format.proofs.Members.{Contains-or}
use Rattle.cfb_directory.proofs.RemovedEntries.{allowed_child}

-- ---- which entries are used

pub used-inside : (es : List Entry) (k : ℕ) → (entry_at es k).obj_type ≢ Unallocated → k < length es
used-inside es k used = present es k (entry_at es k).obj_type (λ e. used (sym e)) refl

-- the numbers of an outline are those of used entries
listed-used : (cases : Cases) (es : List Entry) (o : Outline) (k : ℕ) → HasContents cases es o → Contains (numbers o) k → (entry_at es k).obj_type ≢ Unallocated
listed-used cases es no_more k c has e = omega (arith, has.1)
listed-used cases es (storage_at i inside rest) k (t, l, c, r) has e = elim (first-or-later i (numbers inside ++ numbers rest) k has) [
  | inl same ↦ let clash : Unallocated ≡ Storage = sym e ∙ ap (λ n. (entry_at es n).obj_type) same ∙ t in (cc)
  | inr later ↦ elim (Contains-append_cases (numbers inside) (numbers rest) k later) [
    | inl a ↦ listed-used cases es inside k c a e
    | inr a ↦ listed-used cases es rest k r a e
  ]
]
listed-used cases es (stream_at i rest) k (t, r) has e = elim (first-or-later i (numbers rest) k has) [
  | inl same ↦ let clash : Unallocated ≡ Stream = sym e ∙ ap (λ n. (entry_at es n).obj_type) same ∙ t in (cc)
  | inr later ↦ listed-used cases es rest k r later e
]

pub siblings-listed : (o : Outline) (k : ℕ) → Contains (siblings o) k → Contains (numbers o) k
siblings-listed no_more k has = has
siblings-listed (storage_at i inside rest) k has = elim (first-or-later i (siblings rest) k has) [
  | inl same ↦ (0, omega arith, sym same)
  | inr later ↦ Contains-append_right (i ∷ numbers inside) (numbers rest) k (siblings-listed rest k later)
]
siblings-listed (stream_at i rest) k has = elim (first-or-later i (siblings rest) k has) [
  | inl same ↦ (0, omega arith, sym same)
  | inr later ↦ Contains-append_right (i ∷ []) (numbers rest) k (siblings-listed rest k later)
]

-- a storage that is reached is used
pub parent-used : (cases : Cases) (es : List Entry) (parent : ℕ) → IsReachedStorage cases es parent → (entry_at es parent).obj_type ≢ Unallocated
parent-used cases es parent p e = elim (first-or-later 0 (numbers p.outline) parent p.reached) [
  | inl same ↦ let clash : Unallocated ≡ Root = sym e ∙ ap (λ n. (entry_at es n).obj_type) same ∙ p.is.root in (cc)
  | inr later ↦ listed-used cases es p.outline parent p.is.contents later e
]

-- and so is each of its children
pub child-used : (cases : Cases) (es : List Entry) (parent : ℕ) (list : List ℕ) → IsReachedStorage cases es parent → HasChildren cases es parent list → (k : ℕ) → Contains list k
    → (entry_at es k).obj_type ≢ Unallocated
child-used cases es parent list p h k m =
    let inside = storage-is-inside cases es parent p in
    let same : list ≡ siblings inside.outline = below-same cases cases es (entry_at es parent).child list (siblings inside.outline) h.below inside.has.children in
    listed-used cases es inside.outline k inside.has.contents (siblings-listed inside.outline k (subst (λ l. Contains l k) same m))

-- ---- links

-- a link is none or the number of an entry
IsLink : List Entry → ℕ → Type 0
IsLink es k = (k ≡ no_stream) ⊎ (k < length es)

top-link : (es : List Entry) (top : ℕ) (t : SiblingTree) → HangsAt es top t → IsLink es top
unfolding IsLink
top-link es top leaf h = inl h
top-link es top (node l i r) (e, ne, lt, hl, hr) = inr (omega (arith, e, lt))

links-in : (es : List Entry) (top : ℕ) (t : SiblingTree) → HangsAt es top t → (k : ℕ) → Contains (in_order t) k
    → IsLink es (entry_at es k).left_sibling × IsLink es (entry_at es k).right_sibling
links-in es top leaf h k m = absurd (omega (arith, m.1))
links-in es top (node l i r) (e, ne, lt, hl, hr) k m = elim (Contains-append_cases (in_order l) (i ∷ in_order r) k m) [
  | inl a ↦ links-in es (entry_at es i).left_sibling l hl k a
  | inr a ↦ elim (first-or-later i (in_order r) k a) [
    | inl same ↦ subst (λ n. IsLink es (entry_at es n).left_sibling × IsLink es (entry_at es n).right_sibling) (sym same)
        (top-link es (entry_at es i).left_sibling l hl, top-link es (entry_at es i).right_sibling r hr)
    | inr b ↦ links-in es (entry_at es i).right_sibling r hr k b
  ]
]

link-fits : (es : List Entry) (k : ℕ) → length es ≤ max_entries → IsLink es k → k < 2 ^ 32
unfolding IsLink
link-fits es k few (inl e) = omega (arith, e)
link-fits es k few (inr lt) = omega (arith, lt, few)

link-allowed : (es : List Entry) (k : ℕ) → length es ≤ max_entries → IsLink es k → IsTrue (is_entry_link k)
unfolding IsLink
link-allowed es k few (inl e) = subst (λ n. IsTrue (is_entry_link n)) (sym e) refl
link-allowed es k few (inr lt) = regular k (le-regular k (omega (arith, lt, few)))
  where
    regular : (k : ℕ) → IsTrue (is_regular k) → IsTrue (is_entry_link k)
    regular k r = rw r refl

-- ---- entries that differ in links alone

relinked : (a b : Entry) → unlinked b ≡ unlinked a → b ≡ record a { left_sibling = b.left_sibling; right_sibling = b.right_sibling; color = b.color }
relinked a b e = ap (λ (u : Entry). record u { left_sibling = b.left_sibling; right_sibling = b.right_sibling; color = b.color }) e

-- what can be written and is read back
CanStand : Version → Entry → Type 0
CanStand v e = EntryFits e × IsValidEntry v e

stands-relinked : (v : Version) (es : List Entry) (a b : Entry) → length es ≤ max_entries → unlinked b ≡ unlinked a → IsLink es b.left_sibling × IsLink es b.right_sibling
    → CanStand v a → CanStand v b
unfolding CanStand
stands-relinked v es a b few e (left, right) (f, w) = subst (CanStand v) (sym (relinked a b e)) (
  record {
    name = f.name;
    left_sibling = link-fits es b.left_sibling few left;
    right_sibling = link-fits es b.right_sibling few right;
    child = f.child;
    clsid = f.clsid;
    state_bits = f.state_bits;
    creation_time = f.creation_time;
    modified_time = f.modified_time;
    start_sector = f.start_sector;
    stream_len = f.stream_len;
  },
  record {
    name = w.name;
    left_sibling = link-allowed es b.left_sibling few left;
    right_sibling = link-allowed es b.right_sibling few right;
    child = w.child;
    clsid = w.clsid;
    creation_time = w.creation_time;
    modified_time = w.modified_time;
    start_sector = w.start_sector;
    stream_len = w.stream_len;
    len_in_version = w.len_in_version;
  },
)

stands-parent : (v : Version) (es : List Entry) (a b : Entry) → length es ≤ max_entries → ButChild a b → a.obj_type ≢ Stream → IsLink es b.child → CanStand v a → CanStand v b
unfolding CanStand
stands-parent v es a b few e kind link (f, w) = subst (CanStand v) (sym e) (
  record {
    name = f.name;
    left_sibling = f.left_sibling;
    right_sibling = f.right_sibling;
    child = link-fits es b.child few link;
    clsid = f.clsid;
    state_bits = f.state_bits;
    creation_time = f.creation_time;
    modified_time = f.modified_time;
    start_sector = f.start_sector;
    stream_len = f.stream_len;
  },
  record {
    name = w.name;
    left_sibling = w.left_sibling;
    right_sibling = w.right_sibling;
    child = allowed_child a.obj_type b.child kind (link-allowed es b.child few link);
    clsid = w.clsid;
    creation_time = w.creation_time;
    modified_time = w.modified_time;
    start_sector = w.start_sector;
    stream_len = w.stream_len;
    len_in_version = w.len_in_version;
  },
)

-- ---- a new entry

some_len : (v : Version) → 0 < stream_len_modulus v
some_len V3 = omega arith
some_len V4 = omega arith

pub new-stands : (v : Version) (name : List ℕ) (kind : ObjType) (moment : ℕ) → all_scalars name ≡ true → IsTrue (is_valid_name name) → moment < 2 ^ 64
    → (kind ≡ Storage) ⊎ (kind ≡ Stream) → EntryFits (new_entry name kind moment) × IsValidEntry v (new_entry name kind moment)
new-stands v name kind moment scalars valid small (inl is) = subst (λ k. EntryFits (new_entry name k moment) × IsValidEntry v (new_entry name k moment)) (sym is) (
  record {
    name = scalars;
    left_sibling = omega arith;
    right_sibling = omega arith;
    child = omega arith;
    clsid = refl;
    state_bits = omega arith;
    creation_time = small;
    modified_time = small;
    start_sector = omega arith;
    stream_len = omega arith;
  },
  record {
    name = valid;
    left_sibling = refl;
    right_sibling = refl;
    child = refl;
    clsid = refl;
    creation_time = refl;
    modified_time = refl;
    start_sector = refl;
    stream_len = refl;
    len_in_version = some_len v;
  },
)
new-stands v name kind moment scalars valid small (inr is) = subst (λ k. EntryFits (new_entry name k moment) × IsValidEntry v (new_entry name k moment)) (sym is) (
  record {
    name = scalars;
    left_sibling = omega arith;
    right_sibling = omega arith;
    child = omega arith;
    clsid = refl;
    state_bits = omega arith;
    creation_time = omega arith;
    modified_time = omega arith;
    start_sector = omega arith;
    stream_len = omega arith;
  },
  record {
    name = valid;
    left_sibling = refl;
    right_sibling = refl;
    child = refl;
    clsid = refl;
    creation_time = refl;
    modified_time = refl;
    start_sector = refl;
    stream_len = refl;
    len_in_version = some_len v;
  },
)

-- ---- an insertion

module _ (v : Version) (cases : Cases) (old new : List Entry) (parent n : ℕ) (entry : Entry) (reached : IsReachedStorage cases old parent)
    (i : InsertsEntry cases old new parent n entry) where
  h : HasInserted cases old new parent n entry i.before i.behind
  h = i.inserted

  module _ (few : length old ≤ max_entries) (stands : EntryFits entry × IsValidEntry v entry) (writable : AreWritable v old) where
    few' : length new ≤ max_entries
    few' = let longer = h.longer in omega (arith, few, longer)

    in-tree : (k : ℕ) → Contains (i.before ++ n ∷ i.behind) k → Contains (in_order h.now.below.tree) k
    in-tree k m = subst (λ l. Contains l k) h.now.below.is_in_order m

    links : (k : ℕ) → Contains (i.before ++ n ∷ i.behind) k → IsLink new (entry_at new k).left_sibling × IsLink new (entry_at new k).right_sibling
    links k m = links-in new (entry_at new parent).child h.now.below.tree h.now.below.hangs k (in-tree k m)

    wider : (k : ℕ) → Contains (i.before ++ i.behind) k → Contains (i.before ++ n ∷ i.behind) k
    wider k m = elim (Contains-append_cases i.before i.behind k m) [
      | inl a ↦ Contains-append_left i.before (n ∷ i.behind) k a
      | inr a ↦ Contains-append_right i.before (n ∷ i.behind) k (Contains-append_right (n ∷ []) i.behind k a)
    ]

    old-stands : (k : ℕ) → (entry_at old k).obj_type ≢ Unallocated → CanStand v (entry_at old k)
    unfolding CanStand
    old-stands k used = writable k (used-inside old k used) used

    -- whichever entry it is
    pub parent-stands : EntryFits (entry_at new parent) × IsValidEntry v (entry_at new parent)
    unfolding CanStand
    parent-stands = stands-parent v new (entry_at old parent) (entry_at new parent) few' h.parent_kept reached.kind
        (top-link new (entry_at new parent).child h.now.below.tree h.now.below.hangs) (old-stands parent (parent-used cases old parent reached))

    pub inserted-stands : EntryFits (entry_at new n) × IsValidEntry v (entry_at new n)
    unfolding CanStand
    inserted-stands = stands-relinked v new entry (entry_at new n) few' h.entry_kept (links n (Contains-append_right i.before (n ∷ i.behind) n (0, omega arith, refl))) stands

    pub sibling-stands : (k : ℕ) → Contains (i.before ++ i.behind) k → EntryFits (entry_at new k) × IsValidEntry v (entry_at new k)
    unfolding CanStand
    sibling-stands k m = stands-relinked v new (entry_at old k) (entry_at new k) few' (h.siblings_kept k m) (links k (wider k m))
        (old-stands k (child-used cases old parent (i.before ++ i.behind) reached h.was k m))

    -- all that were touched
    pub touched-stands : (k : ℕ) → (k ≡ parent) ⊎ Contains (n ∷ (i.before ++ i.behind)) k → EntryFits (entry_at new k) × IsValidEntry v (entry_at new k)
    touched-stands k (inl e) = subst (λ j. EntryFits (entry_at new j) × IsValidEntry v (entry_at new j)) (sym e) parent-stands
    touched-stands k (inr m) = elim (first-or-later n (i.before ++ i.behind) k m) [
      | inl e ↦ subst (λ j. EntryFits (entry_at new j) × IsValidEntry v (entry_at new j)) (sym e) inserted-stands
      | inr s ↦ sibling-stands k s
    ]

    pub writable-inserted : AreWritable v new
    unfolding CanStand
    writable-inserted k lt used = elim (cases_eq k parent) [
      | inl e ↦ touched-stands k (inl e)
      | inr no_parent ↦ elim (Contains-or (n ∷ (i.before ++ i.behind)) k) [
        | inl m ↦ touched-stands k (inr m)
        | inr out ↦
            let same : entry_at new k ≡ entry_at old k = h.others_kept k no_parent (λ e. out (0, omega arith, sym e)) (λ m. out (Contains-append_right (n ∷ []) (i.before ++ i.behind) k m)) in
            subst (CanStand v) (sym same) (old-stands k (λ e. used (ap (λ (x : Entry). x.obj_type) same ∙ e)))
      ]
    ]
