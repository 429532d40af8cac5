-- Entries can be written after a removal, as before.
use Rattle.std.proofs.Common.{◌≡◌, ◌≢◌, ◌<◌, ◌≤◌, ◌^◌, ◌⊎◌, inl, inr, ℕ, List, [], ◌∷◌, ◌++◌, refl, sym, ◌∙◌, ap, subst, length, arith, length-append, le-leb}
use Rattle.std.specs.Prelude.{Contains, IsTrue, nat_eq, slice_index_or, ◌==◌, ◌||◌}
use Rattle.std.specs.List.{IsDistinct}
use Rattle.std.proofs.lemmas.Bool.{cases_eq, cases_lt}
use Rattle.std.proofs.lemmas.List.{get_or_past}
use Rattle.std.proofs.lemmas.List.Elements.{Contains-append_left, Contains-append_right, Contains-append_cases, Contains-get_or}
use Rattle.cfb_format.specs.declared.objtype.ObjType.{ObjType}
use Rattle.cfb_format.specs.declared.objtype.ObjType.TheVariants.{Unallocated, Storage, Stream, Root}
use Rattle.cfb_format.specs.declared.version.Version.{Version}
use Rattle.cfb_format.specs.declared.version.Version.TheVariants.{V3, V4}
use Rattle.cfb_format.specs.Bytes.{max_regular_sector, no_stream}
use Rattle.cfb_format.specs.Names.{Cases}
use Rattle.cfb_format.specs.DirectoryEntry.{Entry, EntryFits, IsValidEntry, IsAllowedChild, is_entry_link, unallocated_entry}
use Rattle.cfb_format.specs.Siblings.{SiblingTree, leaf, node, HangsAt, in_order, entry_at}
use Rattle.cfb_format.proofs.Unique.{Below-unique}
use Rattle.cfb_directory.specs.cfb_outline.Outlines.{IsReachedStorage}
use Rattle.cfb_directory.specs.cfb_siblings.Children.{ButLinks, HasRemoved}
use Rattle.cfb_directory.specs.cfb_siblings.Touched.{TouchesOnly}
use Rattle.cfb_format.specs.Full.{max_entries}
use Rattle.cfb_entries.proofs.Contents.{free-beside, free-outside}
use Rattle.cfb_directory.specs.State.{AreWritable}
use Rattle.cfb_slots.proofs.SlotLists.{zip-at, zip-length}
use Rattle.cfb_format.proofs.Members.{Contains-here, Contains-there, Contains-cases, Contains-or, Contains-split, Contains-nil, cons-distinct, distinct-cons}

-- ---- lists

-- where as many numbers are taken from a list as it has, each once, all are taken
all_taken : (xs ys : List ℕ) → IsDistinct nat_eq xs → ((k : ℕ) → Contains xs k → Contains ys k) → length ys ≤ length xs → (k : ℕ) → Contains ys k → Contains xs k
unfolding IsDistinct
all_taken [] [] once among short k m = m
all_taken [] (y ∷ ys) once among short k m = absurd (omega (arith, short))
all_taken (x ∷ xs) ys once among short k m =
    let s = Contains-split ys x (among x (Contains-here x xs)) in
    let rest = s.0 ++ s.1 in
    let fewer : (j : ℕ) → Contains xs j → Contains rest j = λ j c.
    elim (Contains-append_cases s.0 (x ∷ s.1) j (subst (λ (l : List ℕ). Contains l j) s.2 (among j (Contains-there x xs j c)))) [
      | inl front ↦ Contains-append_left s.0 s.1 j front
      | inr back ↦ elim (Contains-cases x s.1 j back) [
        | inl e ↦ absurd (cons-distinct x xs once.0 (subst (Contains xs) (sym e) c))
        | inr behind ↦ Contains-append_right s.0 s.1 j behind
      ]
    ] in
    let count : length rest ≤ length xs =
    omega (arith, short, ap (λ (l : List ℕ). length l) s.2, length-append s.0 (x ∷ s.1), length-append s.0 s.1) in
    elim (Contains-append_cases s.0 (x ∷ s.1) k (subst (λ (l : List ℕ). Contains l k) s.2 m)) [
      | inl front ↦ Contains-there x xs k (all_taken xs rest once.1 fewer count k (Contains-append_left s.0 s.1 k front))
      | inr back ↦ elim (Contains-cases x s.1 k back) [
        | inl e ↦ subst (Contains (x ∷ xs)) e (Contains-here x xs)
        | inr behind ↦ Contains-there x xs k (all_taken xs rest once.1 fewer count k (Contains-append_right s.0 s.1 k behind))
      ]
    ]

-- ---- links

-- what hangs somewhere has a number that a link may be
link_at : (es : List Entry) (w : ℕ) (t : SiblingTree) → length es ≤ max_entries → HangsAt es w t → IsTrue (is_entry_link w) × (w < 2 ^ 32)
link_at es w leaf few h = (subst (λ n. IsTrue (is_entry_link n)) (sym h) refl, omega (arith, h))
link_at es w (node a i b) few h =
    let e = h.0 in
    let lt = h.2 in
    let low : w ≤ max_regular_sector = omega (arith, e, lt, few) in
    (ap (λ c. c || w == no_stream) (le-leb w max_regular_sector low), omega (arith, low))

-- and so each entry of a tree
links_in : (es : List Entry) (w : ℕ) (t : SiblingTree) → length es ≤ max_entries → HangsAt es w t → (k : ℕ) → Contains (in_order t) k
    → (IsTrue (is_entry_link (entry_at es k).left_sibling) × ((entry_at es k).left_sibling < 2 ^ 32)) × (IsTrue (is_entry_link (entry_at es k).right_sibling) × ((entry_at es k).right_sibling < 2 ^ 32))
links_in es w leaf few h k m = absurd (Contains-nil k m)
links_in es w (node a i b) few h k m = elim (Contains-append_cases (in_order a) (i ∷ in_order b) k m) [
  | inl before ↦ links_in es (entry_at es i).left_sibling a few h.3 k before
  | inr rest ↦ elim (Contains-cases i (in_order b) k rest) [
    | inl e ↦ (
      subst (λ j. IsTrue (is_entry_link (entry_at es j).left_sibling) × ((entry_at es j).left_sibling < 2 ^ 32)) e (link_at es (entry_at es i).left_sibling a few h.3),
      subst (λ j. IsTrue (is_entry_link (entry_at es j).right_sibling) × ((entry_at es j).right_sibling < 2 ^ 32)) e (link_at es (entry_at es i).right_sibling b few h.4),
    )
    | inr behind ↦ links_in es (entry_at es i).right_sibling b few h.4 k behind
  ]
]

-- ---- entries with other links

pub allowed_child : (t : ObjType) (w : ℕ) → t ≢ Stream → IsTrue (is_entry_link w) → IsAllowedChild t w
allowed_child Unallocated w ne h = h
allowed_child Storage w ne h = h
allowed_child Stream w ne h = absurd (ne refl)
allowed_child Root w ne h = h

pub other_child : (v : Version) (e : Entry) (w : ℕ) → e.obj_type ≢ Stream → IsTrue (is_entry_link w) → w < 2 ^ 32 → EntryFits e × IsValidEntry v e
    → EntryFits (record e { child = w }) × IsValidEntry v (record e { child = w })
other_child v e w kind link low h = (
  record {
    name = h.0.name;
    left_sibling = h.0.left_sibling;
    right_sibling = h.0.right_sibling;
    child = low;
    clsid = h.0.clsid;
    state_bits = h.0.state_bits;
    creation_time = h.0.creation_time;
    modified_time = h.0.modified_time;
    start_sector = h.0.start_sector;
    stream_len = h.0.stream_len;
  },
  record {
    name = h.1.name;
    left_sibling = h.1.left_sibling;
    right_sibling = h.1.right_sibling;
    child = allowed_child e.obj_type w kind link;
    clsid = h.1.clsid;
    creation_time = h.1.creation_time;
    modified_time = h.1.modified_time;
    start_sector = h.1.start_sector;
    stream_len = h.1.stream_len;
    len_in_version = h.1.len_in_version;
  },
)

other_links : (v : Version) (e now : Entry) → ButLinks e now → IsTrue (is_entry_link now.left_sibling) × (now.left_sibling < 2 ^ 32)
    → IsTrue (is_entry_link now.right_sibling) × (now.right_sibling < 2 ^ 32) → EntryFits e × IsValidEntry v e → EntryFits now × IsValidEntry v now
other_links v e now same left right h =
    let made : now ≡ record e { left_sibling = now.left_sibling; right_sibling = now.right_sibling; color = now.color } =
    ap (λ (x : Entry). record x { left_sibling = now.left_sibling; right_sibling = now.right_sibling; color = now.color }) same in (
      subst EntryFits (sym made) (record {
        name = h.0.name;
        left_sibling = left.1;
        right_sibling = right.1;
        child = h.0.child;
        clsid = h.0.clsid;
        state_bits = h.0.state_bits;
        creation_time = h.0.creation_time;
        modified_time = h.0.modified_time;
        start_sector = h.0.start_sector;
        stream_len = h.0.stream_len;
      }),
      subst (IsValidEntry v) (sym made) (record {
        name = h.1.name;
        left_sibling = left.0;
        right_sibling = right.0;
        child = h.1.child;
        clsid = h.1.clsid;
        creation_time = h.1.creation_time;
        modified_time = h.1.modified_time;
        start_sector = h.1.start_sector;
        stream_len = h.1.stream_len;
        len_in_version = h.1.len_in_version;
      }),
    )

pub used_inside : (es : List Entry) (k : ℕ) → (entry_at es k).obj_type ≢ Unallocated → k < length es
used_inside es k used = elim (cases_lt k (length es)) [
  | inl lt ↦ lt
  | inr ge ↦ absurd (used (ap (λ (e : Entry). e.obj_type) (get_or_past es k unallocated_entry ge)))
]

pub cases_used : (t : ObjType) → (t ≡ Unallocated) ⊎ (t ≢ Unallocated)
cases_used Unallocated = inl refl
cases_used Storage = inr (λ e. cc)
cases_used Stream = inr (λ e. cc)
cases_used Root = inr (λ e. cc)

pub unallocated_valid : (v : Version) → IsValidEntry v unallocated_entry
unallocated_valid V3 = record {
  name = refl;
  left_sibling = refl;
  right_sibling = refl;
  child = refl;
  clsid = refl;
  creation_time = refl;
  modified_time = refl;
  start_sector = refl;
  stream_len = refl;
  len_in_version = omega arith;
}
unallocated_valid V4 = record {
  name = refl;
  left_sibling = refl;
  right_sibling = refl;
  child = refl;
  clsid = refl;
  creation_time = refl;
  modified_time = refl;
  start_sector = refl;
  stream_len = refl;
  len_in_version = omega arith;
}

-- ---- the removal

module _ (v : Version) (cases : Cases) (old new : List Entry) (parent n freed : ℕ) (xs ys list : List ℕ) (r : HasRemoved cases old new parent n freed xs ys list)
    (writable : AreWritable v old) (few : length old ≤ max_entries) (reached : IsReachedStorage cases old parent) where
  few_now : length new ≤ max_entries
  few_now = let e = r.longer in omega (arith, e, few)

  -- whoever is left of the children is a child still
  left_over : (k : ℕ) → Contains (xs ++ n ∷ ys) k → k ≢ freed → Contains list k
  unfolding IsDistinct
  left_over k m ne =
      let zip = zip-length (λ i j. ButLinks (entry_at old i) (entry_at new j)) 0 0 (xs ++ ys) list r.siblings_kept in
      let freed_in : Contains (xs ++ n ∷ ys) freed = elim r.freed_was [
        | inl e ↦ subst (Contains (xs ++ n ∷ ys)) (sym e) (Contains-append_right xs (n ∷ ys) n (Contains-here n ys))
        | inr p ↦ Contains-append_left xs (n ∷ ys) freed (subst (λ (l : List ℕ). Contains l freed) (sym p.1) (Contains-append_right p.0 (freed ∷ []) freed (Contains-here freed [])))
      ] in
      let among : (j : ℕ) → Contains (freed ∷ list) j → Contains (xs ++ n ∷ ys) j = λ j c. elim (Contains-cases freed list j c) [
        | inl e ↦ subst (Contains (xs ++ n ∷ ys)) e freed_in
        | inr later ↦ r.among j later
      ] in
      let taken = all_taken (freed ∷ list) (xs ++ n ∷ ys) (distinct-cons freed list r.freed_gone, r.now.below.distinct) among
      (omega (arith, zip, length-append xs (n ∷ ys), length-append xs ys)) k m in
      elim (Contains-cases freed list k taken) [ inl e ↦ absurd (ne (sym e)) | inr later ↦ later ]

  -- the entry that a child has is that of a child before
  child_was : (k : ℕ) → Contains list k → (j : ℕ) × Contains (xs ++ n ∷ ys) j × ButLinks (entry_at old j) (entry_at new k)
  child_was k m =
      let zip = zip-length (λ i j. ButLinks (entry_at old i) (entry_at new j)) 0 0 (xs ++ ys) list r.siblings_kept in
      let at = zip-at (λ i j. ButLinks (entry_at old i) (entry_at new j)) 0 k (xs ++ ys) list m.0 r.siblings_kept m.1 in
      let inside = m.1 in
      let was = Contains-get_or (xs ++ ys) m.0 0 (omega (arith, inside, zip)) in (
        slice_index_or (xs ++ ys) m.0 0,
        elim (Contains-append_cases xs ys _ was) [
          | inl front ↦ Contains-append_left xs (n ∷ ys) _ front
          | inr back ↦ Contains-append_right xs (n ∷ ys) _ (Contains-there n ys _ back)
        ],
        subst (λ w. ButLinks (entry_at old (slice_index_or (xs ++ ys) m.0 0)) (entry_at new w)) m.2 at,
      )

  parent_now : (entry_at new parent).obj_type ≢ Unallocated → EntryFits (entry_at new parent) × IsValidEntry v (entry_at new parent)
  parent_now used =
      let same = r.parent_kept in
      let link = link_at new (entry_at new parent).child r.now.below.tree few_now r.now.below.hangs in
      let there = writable parent r.was.parent_in (λ u. used (ap (λ (e : Entry). e.obj_type) same ∙ u)) in
      subst (λ (e : Entry). EntryFits e × IsValidEntry v e) (sym same) (other_child v (entry_at old parent) (entry_at new parent).child reached.kind link.0 link.1 there)

  child_now : (k : ℕ) → Contains list k → (entry_at new k).obj_type ≢ Unallocated → EntryFits (entry_at new k) × IsValidEntry v (entry_at new k)
  child_now k m used =
      let was = child_was k m in
      let same = was.2 in
      let links = links_in new (entry_at new parent).child r.now.below.tree few_now r.now.below.hangs k (subst (λ (l : List ℕ). Contains l k) r.now.below.is_in_order m) in
      let used_then : (entry_at old was.0).obj_type ≢ Unallocated = λ u. used (ap (λ (e : Entry). e.obj_type) same ∙ u) in
      other_links v (entry_at old was.0) (entry_at new k) same links.0 links.1 (writable was.0 (used_inside old was.0 used_then) used_then)

  -- each entry that is used
  pub removed_writable : AreWritable v new
  removed_writable k lt used = elim (cases_eq k parent) [
    | inl e ↦ subst (λ j. EntryFits (entry_at new j) × IsValidEntry v (entry_at new j)) (sym e) (parent_now (subst (λ j. (entry_at new j).obj_type ≢ Unallocated) e used))
    | inr beside ↦ elim (Contains-or list k) [
      | inl m ↦ child_now k m used
      | inr out ↦ elim (Contains-or (xs ++ n ∷ ys) k) [
        | inl was ↦ elim (cases_eq k freed) [
          | inl e ↦ absurd (used (ap (λ j. (entry_at new j).obj_type) e ∙ ap (λ (x : Entry). x.obj_type) r.freed_is))
          | inr ne ↦ absurd (out (left_over k was ne))
        ]
        | inr never ↦
            let same = r.others_kept k beside never in
            let used_then : (entry_at old k).obj_type ≢ Unallocated = λ u. used (ap (λ (e : Entry). e.obj_type) same ∙ u) in
            subst (λ (e : Entry). EntryFits e × IsValidEntry v e) (sym same) (writable k (used_inside old k used_then) used_then)
      ]
    ]
  ]

  -- a child of a storage that is reached is used
  was_used : (j : ℕ) → Contains (xs ++ n ∷ ys) j → (entry_at old j).obj_type ≢ Unallocated
  was_used j m u =
      let beside = free-outside cases old parent j reached u in
      beside.2 (subst (λ (l : List ℕ). Contains l j) (Below-unique cases old (entry_at old parent).child (xs ++ n ∷ ys) beside.0 r.was.below beside.1.below) m)

  -- and each that was touched can be written
  pub touched_valid : (touched : List ℕ) → TouchesOnly parent (xs ++ n ∷ ys) touched → ((k : ℕ) → Contains touched k → k < length new)
      → (k : ℕ) → Contains touched k → IsValidEntry v (entry_at new k)
  touched_valid touched only within k m = elim (cases_used (entry_at new k).obj_type) [
    | inr used ↦ (removed_writable k (within k m) used).1
    | inl unused ↦ elim (only k m) [
      | inl e ↦
          let kind = ap (λ (x : Entry). x.obj_type) r.parent_kept in
          let u : (entry_at old parent).obj_type ≡ Unallocated = sym kind ∙ sym (ap (λ j. (entry_at new j).obj_type) e) ∙ unused in
          absurd (free-beside cases old parent parent reached u refl)
      | inr child ↦ elim (cases_eq k freed) [
        | inl e ↦ subst (IsValidEntry v) (sym (ap (λ j. entry_at new j) e ∙ r.freed_is)) (unallocated_valid v)
        | inr ne ↦
            let was = child_was k (left_over k child ne) in
            absurd (was_used was.0 was.1 (sym (ap (λ (x : Entry). x.obj_type) was.2) ∙ unused))
      ]
    ]
  ]
