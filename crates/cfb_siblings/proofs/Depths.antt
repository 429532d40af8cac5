-- How deep a place of a sibling tree lies, and how many slots are touched along the way to it.
use Rattle.std.proofs.Common.{◌≡◌, ℕ, ◌+◌, ◌≤◌, List, [], ◌∷◌, length, length-append, refl, ap, sym, ◌∙◌, subst, arith}
use Rattle.cfb_format.specs.DirectoryEntry.{Entry}
use Rattle.cfb_format.specs.Siblings.{SiblingTree, depth, entry_at}
use Rattle.cfb_format.proofs.Unique.{HangsAt-unique}
use Rattle.cfb_siblings.specs.declared.links.PathStep.{PathStep}
use Rattle.cfb_siblings.specs.Painted.{Painted, Node, bare}
use Rattle.cfb_siblings.specs.Taking.{SpareAt}
use Rattle.cfb_siblings.specs.Touched.{TouchesFew}
use Rattle.cfb_siblings.specs.Way.{Frame, InLeft, InRight, HasTree, plug, step_of, way}
use Rattle.cfb_siblings.proofs.PaintedTrees.{hangs-of}

deep-plug : (fs : List Frame) (t : Painted) → depth (bare t) + length fs ≤ depth (bare (plug fs t))
deep-plug [] t = omega arith
deep-plug (InLeft c n s ∷ fs) t = omega (arith, deep-plug fs (Node c t n s))
deep-plug (InRight c n s ∷ fs) t = omega (arith, deep-plug fs (Node c s n t))

long-way : (fs : List Frame) → length (way fs) ≡ length fs
long-way [] = refl
long-way (f ∷ fs) = omega (arith, length-append (way fs) (step_of f ∷ []), long-way fs)

-- the way to the node that goes is shorter than the tree is deep
pub spare-deep : (es : List Entry) (steps : List PathStep) (t : Painted) (n m : ℕ) → SpareAt es steps t n m → length steps + 1 ≤ depth (bare t)
spare-deep es steps t n m (gs, d, a, b, s) =
    let long = ap (λ (l : List PathStep). length l) s.stood.way_is ∙ long-way gs in
    subst (λ (u : Painted). length steps + 1 ≤ depth (bare u)) s.stood.part (omega (arith, deep-plug gs (Node d a m b), long))

-- a bound by the painted tree is one by the tree that hangs there
pub few-touched : (es : List Entry) (parent : ℕ) (t : Painted) (list : List ℕ) → length es ≤ 4294967295 → HasTree es parent t → length list ≤ depth (bare t) + 8 → TouchesFew es parent list
few-touched es parent t list few st h tree hangs =
    let same : tree ≡ bare t = HangsAt-unique es (entry_at es parent).child tree (bare t) hangs (hangs-of es t (entry_at es parent).child few st.1) in
    subst (λ (u : SiblingTree). length list ≤ depth u + 8) (sym same) h
