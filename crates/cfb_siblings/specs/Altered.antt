-- Which slots differ from what they were before a removal, while what it lacks is made up for.
use Rattle.std.specs.Prelude.{ℕ, ◌≡◌, ◌≢◌, ◌≤◌, ◌⊎◌, Bool, false, cond, Option, Some, None, MatchOption, List, ◌∷◌}
use Rattle.cfb_format.specs.DirectoryEntry.{Entry}
use Rattle.cfb_format.specs.declared.color.Color.TheVariants.{Red}
use Rattle.cfb_format.specs.Bytes.{no_stream}
use Rattle.cfb_format.specs.Siblings.{entry_at}
use Rattle.cfb_siblings.specs.declared.links.PathStep.{PathStep}
use Rattle.cfb_siblings.specs.Painted.{Painted, top, times_in, occurs}
use Rattle.cfb_siblings.specs.Way.{Frame, around, above, beside, step_of, frame_number, name_at, Hangs}
use Rattle.cfb_siblings.specs.Writes.{far_link}
use Rattle.cfb_siblings.specs.Taking.{Spot}
use Rattle.cfb_siblings.specs.Touched.{Tells, TouchesChanged, slot_of_link}

-- the link above a place
abbrev pub link_at : List Entry → ℕ → Option PathStep → ℕ
link_at es parent None = (entry_at es parent).child
link_at es parent (Some s) = cond s.left (entry_at es s.number).left_sibling (entry_at es s.number).right_sibling

-- the entry apart from its colour
abbrev pub uncolored : Entry → Entry
uncolored e = record e { color = Red }

-- the slot k, none of those above the place, differs from what it was first: in more than its colour, if it is the top x of what stands there
abbrev pub ChangedBelow : List Entry → List Entry → ℕ → List Frame → ℕ → ℕ → Type 0
ChangedBelow first es parent fs x k = (k ≢ parent) × (around k fs ≡ 0)
    × (((k ≢ x) × (entry_at es k ≢ entry_at first k)) ⊎ (uncolored (entry_at es k) ≢ uncolored (entry_at first k)))

-- the slot k has the link above the place, and that is not what it was first
abbrev pub ChangedAbove : List Entry → List Entry → ℕ → List Frame → ℕ → Type 0
ChangedAbove first es parent fs k = (k ≡ slot_of_link parent (above fs)) × (link_at es parent (above fs) ≢ link_at first parent (above fs))

-- the slot k differs from what it was first, and will do so whatever is made up for at the place: by its name, or in one of these ways
abbrev pub StaysChanged : List Entry → List Entry → ℕ → List Frame → ℕ → ℕ → Type 0
StaysChanged first es parent fs x k = (name_at es k ≢ name_at first k) ⊎ (ChangedBelow first es parent fs x k ⊎ ChangedAbove first es parent fs k)

-- the list has the slots that differ from what they were first, for good
pub record Altered (first es : List Entry) (parent : ℕ) (list : List ℕ) (fs : List Frame) (t : Painted) : Type 0 where
  pub told : (k : ℕ) → times_in k list ≡ 0 → entry_at es k ≡ entry_at first k
  pub stays : (k : ℕ) → 1 ≤ times_in k list → StaysChanged first es parent fs (top t) k

-- so it is at the place that is short
abbrev pub AlteredAt : List Entry → List Entry → ℕ → List PathStep → ℕ → List ℕ → Type 0
AlteredAt first es parent steps x list = (fs : List Frame) × (t : Painted) × Spot es parent steps x fs t × Altered first es parent list fs t

-- nothing is left to make up for, or the place is higher up
abbrev pub AltersTo : List Entry → List Entry → ℕ → List PathStep → Option ℕ → List ℕ → Type 0
AltersTo first new parent steps result list = MatchOption result (TouchesChanged first new list) (λ y. AlteredAt first new parent steps y list)

-- a change about the node of the frame f, which is above the place: the slots that come to the list are those that changed, and of the
-- others only that node, the part beside the place and the slot of the link above are written; the link to the place stays
pub record Shifts (es new : List Entry) (parent : ℕ) (f : Frame) (gs : List Frame) (before after : List ℕ) : Type 0 where
  pub told : Tells (λ k. entry_at new k ≢ entry_at es k) es new before after
  pub elsewhere : (k : ℕ) → k ≢ frame_number f → k ≢ slot_of_link parent (above gs) → occurs k (beside f) ≡ 0 → entry_at new k ≡ entry_at es k
  pub kept : link_at new parent (Some (step_of f)) ≡ link_at es parent (Some (step_of f))

-- besides, the other link of that node leads into the part that stood beside the place, or nowhere, and the frames above stay;
-- and where the place is not evened, only that part is written
pub record Evens (evened : Bool) (es new : List Entry) (parent : ℕ) (f : Frame) (gs : List Frame) (before after : List ℕ) : Type 0 where
  pub shifts : Shifts es new parent f gs before after
  pub far : (far_link new (step_of f) ≡ no_stream) ⊎ (1 ≤ occurs (far_link new (step_of f)) (beside f))
  pub hangs : (link : ℕ) × Hangs new parent gs link
  pub alone : evened ≡ false → (k : ℕ) → occurs k (beside f) ≡ 0 → entry_at new k ≡ entry_at es k
