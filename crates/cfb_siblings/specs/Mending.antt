-- What makes up for a missing black node in a sibling tree.
use Rattle.std.specs.Prelude.{◌≡◌, ℕ, ◌≤◌, Bool, true, false, Option, MatchOption, List, ◌∷◌, ◌++◌}
use Rattle.cfb_format.specs.DirectoryEntry.{Entry}
use Rattle.cfb_siblings.specs.declared.links.PathStep.{PathStep}
use Rattle.cfb_siblings.specs.Painted.{Painted, Node, top, tree_numbers, occurs}
use Rattle.cfb_siblings.specs.Way.{Frame, plug, close, red_top, HasTree, KeptOutside, step_of, above, beside, is_red_frame, frame_number}
use Rattle.cfb_siblings.specs.Short.{Mends, Passes}
use Rattle.cfb_siblings.specs.Taking.{Spot}

-- x is the top of t below the step p
pub record Edge (es : List Entry) (parent : ℕ) (p : PathStep) (x : ℕ) (o : Option PathStep) (f : Frame) (gs : List Frame) (t : Painted) : Type 0 where
  pub stands : HasTree es parent (plug (f ∷ gs) t)
  pub step_is : step_of f ≡ p
  pub top_is : x ≡ top t
  pub above_is : o ≡ above gs
  pub once : (k : ℕ) → occurs k (plug (f ∷ gs) t) ≤ 1
  pub apart : occurs parent (plug (f ∷ gs) t) ≡ 0

abbrev pub HasEdge : List Entry → ℕ → PathStep → ℕ → Option PathStep → Type 0
HasEdge es parent p x o = (f : Frame) × (gs : List Frame) × (t : Painted) × Edge es parent p x o f gs t

-- the tree is mended, or the node above t is short in its place; both where neither t nor the part beside it has a red top
abbrev pub EvenedBy : Bool → List Entry → ℕ → Frame → List Frame → Painted → Type 0
EvenedBy true new parent f gs t = (u : Painted) × HasTree new parent u × (tree_numbers u ≡ tree_numbers (plug (f ∷ gs) t)) × (red_top t ≡ false → red_top (beside f) ≡ false → Mends (f ∷ gs) t u)
EvenedBy false new parent f gs t = (l : Painted) × (r : Painted) × HasTree new parent (plug gs (Node (is_red_frame f) l (frame_number f) r)) × (tree_numbers l ++ frame_number f ∷ tree_numbers r ≡ tree_numbers (close f t))
    × (red_top t ≡ false → red_top (beside f) ≡ false → Passes (f ∷ gs) t gs (Node (is_red_frame f) l (frame_number f) r))

-- the tree is mended, in the old order
abbrev pub Settled : List Entry → ℕ → List Frame → Painted → Type 0
Settled new parent fs t = (u : Painted) × HasTree new parent u × (tree_numbers u ≡ tree_numbers (plug fs t)) × Mends fs t u

-- the short place is higher up
abbrev pub RisesTo : List Entry → ℕ → List PathStep → ℕ → List Frame → Painted → Type 0
RisesTo new parent steps y fs t = (gs : List Frame) × (s : Painted) × Spot new parent steps y gs s × (tree_numbers (plug gs s) ≡ tree_numbers (plug fs t)) × Passes fs t gs s

abbrev pub Rose : List Entry → List Entry → ℕ → List PathStep → Option ℕ → List Frame → Painted → Type 0
Rose old new parent steps result fs t = KeptOutside old new parent (plug fs t) × MatchOption result (Settled new parent fs t) (λ y. RisesTo new parent steps y fs t)
