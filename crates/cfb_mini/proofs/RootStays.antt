-- The root's start and length stay as entries come and go.
use Rattle.std.proofs.Common.{◌≡◌, ◌≢◌, inl, inr, ℕ, List, ◌∷◌, ◌++◌, sym, ◌∙◌, ap, subst, arith}
use Rattle.std.specs.Prelude.{Contains}
use Rattle.std.proofs.lemmas.Bool.{cases_eq}
use Rattle.std.proofs.lemmas.List.Elements.{Contains-append_cases}
use Rattle.cfb_format.specs.declared.objtype.ObjType.TheVariants.{Unallocated, Storage, Stream, Root}
use Rattle.cfb_format.specs.DirectoryEntry.{Entry}
use Rattle.cfb_format.specs.Names.{Cases}
use Rattle.cfb_format.specs.Reading.{Outline, no_more, storage_at, stream_at, HasContents, siblings, numbers}
use Rattle.cfb_format.specs.Siblings.{entry_at}
use Rattle.cfb_mini.specs.cfb_outline.Outlines.{HasInside, IsReachedStorage}
use Rattle.cfb_mini.proofs.cfb_outline.Insides.{below-same, storage-is-inside, first-or-later}
use Rattle.cfb_mini.specs.cfb_siblings.Children.{ButChild, ButLinks, HasChildren, HasInserted, HasRemoved}
use Rattle.cfb_mini.specs.cfb_entries.Clearing.{HasCleared}
use Rattle.cfb_mini.proofs.cfb_directory.InsertLinks.{siblings-listed}
use Rattle.cfb_format.proofs.Members.{Contains-or}

-- the start and the length
pub record SameContent (old new : Entry) : Type 0 where
  pub start : new.start_sector ≡ old.start_sector
  pub len : new.stream_len ≡ old.stream_len

pub but-child : (old new : Entry) → ButChild old new → SameContent old new
but-child old new b = record { start = ap (λ (e : Entry). e.start_sector) b; len = ap (λ (e : Entry). e.stream_len) b }

pub but-links : (old new : Entry) → ButLinks old new → SameContent old new
but-links old new b = record { start = ap (λ (e : Entry). e.start_sector) b; len = ap (λ (e : Entry). e.stream_len) b }

pub same-entry : (old new : Entry) → new ≡ old → SameContent old new
same-entry old new b = record { start = ap (λ (e : Entry). e.start_sector) b; len = ap (λ (e : Entry). e.stream_len) b }

-- ---- the root is no child

listed-no-root : (cases : Cases) (es : List Entry) (o : Outline) (k : ℕ) → HasContents cases es o → Contains (numbers o) k → (entry_at es k).obj_type ≢ Root
listed-no-root cases es no_more k c has e = omega (arith, has.1)
listed-no-root cases es (storage_at i inside rest) k (t, l, c, r) has e = elim (first-or-later i (numbers inside ++ numbers rest) k has) [
  | inl same ↦ let clash : Root ≡ Storage = sym e ∙ ap (λ n. (entry_at es n).obj_type) same ∙ t in (cc)
  | inr later ↦ elim (Contains-append_cases (numbers inside) (numbers rest) k later) [
    | inl a ↦ listed-no-root cases es inside k c a e
    | inr a ↦ listed-no-root cases es rest k r a e
  ]
]
listed-no-root cases es (stream_at i rest) k (t, r) has e = elim (first-or-later i (numbers rest) k has) [
  | inl same ↦ let clash : Root ≡ Stream = sym e ∙ ap (λ n. (entry_at es n).obj_type) same ∙ t in (cc)
  | inr later ↦ listed-no-root cases es rest k r later e
]

pub child-no-root : (cases : Cases) (es : List Entry) (parent : ℕ) (list : List ℕ) → IsReachedStorage cases es parent → HasChildren cases es parent list → (k : ℕ) → Contains list k
    → (entry_at es k).obj_type ≢ Root
child-no-root cases es parent list p h k m =
    let inside = storage-is-inside cases es parent p in
    let same : list ≡ siblings inside.outline = below-same cases cases es (entry_at es parent).child list (siblings inside.outline) h.below inside.has.children in
    listed-no-root cases es inside.outline k inside.has.contents (siblings-listed inside.outline k (subst (λ l. Contains l k) same m))

-- ---- as an entry comes

pub inserted-root : (cases : Cases) (old new : List Entry) (parent n : ℕ) (entry : Entry) (xs ys : List ℕ) → HasInserted cases old new parent n entry xs ys
    → (entry_at old n).obj_type ≡ Unallocated → (entry_at old 0).obj_type ≡ Root → SameContent (entry_at old 0) (entry_at new 0)
inserted-root cases old new parent n entry xs ys h free root = elim (cases_eq 0 parent) [
  | inl e ↦ subst (λ k. SameContent (entry_at old k) (entry_at new k)) (sym e) (but-child (entry_at old parent) (entry_at new parent) h.parent_kept)
  | inr other ↦ elim (cases_eq 0 n) [
    | inl e ↦ let clash : Unallocated ≡ Root = sym free ∙ ap (λ k. (entry_at old k).obj_type) (sym e) ∙ root in absurd (cc)
    | inr ne ↦ elim (Contains-or (xs ++ ys) 0) [
      | inl m ↦ but-links (entry_at old 0) (entry_at new 0) (h.siblings_kept 0 m)
      | inr none ↦ same-entry (entry_at old 0) (entry_at new 0) (h.others_kept 0 other ne none)
    ]
  ]
]

-- ---- and as one goes

pub removed-root : (cases : Cases) (old new : List Entry) (parent n freed : ℕ) (xs ys list : List ℕ) → HasRemoved cases old new parent n freed xs ys list
    → IsReachedStorage cases old parent → SameContent (entry_at old 0) (entry_at new 0)
removed-root cases old new parent n freed xs ys list h p = elim (cases_eq 0 parent) [
  | inl e ↦ subst (λ k. SameContent (entry_at old k) (entry_at new k)) (sym e) (but-child (entry_at old parent) (entry_at new parent) h.parent_kept)
  | inr other ↦ same-entry (entry_at old 0) (entry_at new 0)
      (h.others_kept 0 other (λ m. child-no-root cases old parent (xs ++ n ∷ ys) p h.was 0 m p.is.root))
]

-- and as all in a storage goes
pub cleared-root : (cases : Cases) (old new : List Entry) (top : ℕ) (list : List ℕ) → IsReachedStorage cases old top → ((o : Outline) → HasInside cases old top o → list ≡ numbers o)
    → HasCleared old new top list → SameContent (entry_at old 0) (entry_at new 0)
cleared-root cases old new top list p all h = elim (cases_eq 0 top) [
  | inl e ↦ subst (λ k. SameContent (entry_at old k) (entry_at new k)) (sym e) (but-child (entry_at old top) (entry_at new top) h.top_kept)
  | inr other ↦
      let inside = storage-is-inside cases old top p in
      same-entry (entry_at old 0) (entry_at new 0)
      (h.others_kept 0 other (λ m. listed-no-root cases old inside.outline 0 inside.has.contents (subst (λ l. Contains l 0) (all inside.outline inside.has) m) p.is.root))
]
