-- The slots that a change of a storage's children may touch.
use Rattle.std.proofs.Common.{false, ◌≡◌, ◌⊎◌, inl, inr, ℕ, ◌<◌, ◌≤◌, Option, true, List, [], ◌∷◌, ◌++◌, length, refl, ap, sym, ◌∙◌, subst, arith}
use Rattle.std.specs.Prelude.{Contains}
use Rattle.std.proofs.lemmas.List.{same_from_push}
use Rattle.cfb_format.specs.DirectoryEntry.{Entry}
use Rattle.cfb_siblings.specs.declared.links.PathStep.{PathStep}
use Rattle.cfb_siblings.specs.Painted.{Painted, Leaf, Node, top, times_in, occurs, tree_numbers}
use Rattle.cfb_siblings.specs.Way.{Frame, HasTree, plug, close, beside, above, way, step_of, frame_number, red_top, At, Going}
use Rattle.cfb_siblings.specs.Writes.{link_red, far_link}
use Rattle.cfb_siblings.specs.Taking.{StandsInTree, SpareAt}
use Rattle.cfb_siblings.specs.Touched.{IsNear, Tells, slot_of_link}
use Rattle.cfb_siblings.proofs.Tallies.{hit-same, hit-cases, present}
use Rattle.cfb_siblings.proofs.Zip.{Shape-top, split, occurs-plug}
use Rattle.cfb_siblings.proofs.Ordered.{tally-numbers}
use Rattle.cfb_siblings.proofs.Lifting.{top-once}
use Rattle.cfb_siblings.proofs.Turns.{no-push, frame-in, frame-far, top-in, red-at-link, uncle-in, in-storage}
use Rattle.cfb_siblings.proofs.Touching.{tells-as, tells-trans}

-- ---- what is near

pub near-more : (parent : ℕ) (s t : Painted) → ((k : ℕ) → occurs k s ≤ occurs k t) → (k : ℕ) → IsNear parent s k → IsNear parent t k
near-more parent s t f k near = elim near [ inl e ↦ inl e | inr o ↦ inr (omega (arith, o, f k)) ]

pub near-range : (es : List Entry) (parent : ℕ) (t : Painted) → HasTree es parent t → (k : ℕ) → IsNear parent t k → k < length es
near-range es parent t st k near = elim near [ inl e ↦ rw e st.0 | inr o ↦ in-storage es parent k t st o ]

pub near-list : (parent : ℕ) (t : Painted) (list : List ℕ) → tree_numbers t ≡ list → (k : ℕ) → IsNear parent t k → (k ≡ parent) ⊎ Contains list k
near-list parent t list e k near = elim near [ inl p ↦ inl p | inr o ↦ inr (present k list (omega (arith, o, tally-numbers k t, ap (times_in k) e))) ]

-- the entry with the link above a place
pub near-link : (parent : ℕ) (fs : List Frame) (t : Painted) (o : Option PathStep) → o ≡ above fs → IsNear parent (plug fs t) (slot_of_link parent o)
near-link parent [] t o e = subst (λ y. IsNear parent t (slot_of_link parent y)) (sym e) (inl refl)
near-link parent (f ∷ fs) t o e = subst (λ y. IsNear parent (plug (f ∷ fs) t) (slot_of_link parent y)) (sym e) (inr (frame-in (frame_number f) f fs t refl))

-- ---- a new entry, beside the tree

pub near-new : (parent n : ℕ) (t : Painted) → IsNear parent (Node false Leaf n t) n
near-new parent n t = inr (omega (arith, hit-same n))

pub near-new-range : (es : List Entry) (parent n : ℕ) (t : Painted) → HasTree es parent t → n < length es → (k : ℕ) → IsNear parent (Node false Leaf n t) k → k < length es
near-new-range es parent n t st lt k near = elim near [
  | inl e ↦ rw e st.0
  | inr o ↦ elim (hit-cases k n) [ inl e ↦ rw e lt | inr z ↦ in-storage es parent k t st (omega (arith, o, z)) ]
]

pub near-new-list : (parent n : ℕ) (t : Painted) (list : List ℕ) → tree_numbers t ≡ list → (k : ℕ) → IsNear parent (Node false Leaf n t) k → (k ≡ parent) ⊎ Contains (n ∷ list) k
unfolding times_in
near-new-list parent n t list e k near = elim near [ inl p ↦ inl p | inr o ↦ inr (present k (n ∷ list) (omega (arith, o, tally-numbers k t, ap (times_in k) e))) ]

-- ---- the repair after an insertion

module _ (es : List Entry) (parent x : ℕ) (steps : List PathStep) where
  pub near-top : (fs : List Frame) (t : Painted) → At es parent steps x fs t → IsNear parent (plug fs t) x
  near-top fs t at = subst (λ (k : ℕ). IsNear parent (plug fs t) k) (sym at.top_is) (inr (top-in fs t at.red))

  pub near-step : (fs : List Frame) (t : Painted) (rest : List PathStep) (s : PathStep) → At es parent steps x fs t → steps ≡ rest ++ s ∷ [] → IsNear parent (plug fs t) s.number
  near-step [] t rest s at e = absurd (no-push rest s (sym at.way_is ∙ e))
  near-step (f ∷ gs) t rest s at e =
      let (w, st) = same_from_push (way gs) rest (step_of f) s (sym at.way_is ∙ e) in
      subst (λ (y : PathStep). IsNear parent (plug (f ∷ gs) t) y.number) st (inr (frame-in (frame_number f) f gs t refl))

  pub near-step2 : (fs : List Frame) (t : Painted) (rest last : List PathStep) (s q : PathStep) → At es parent steps x fs t → steps ≡ rest ++ s ∷ [] → rest ≡ last ++ q ∷ [] → IsNear parent (plug fs t) q.number
  near-step2 [] t rest last s q at e z = absurd (no-push rest s (sym at.way_is ∙ e))
  near-step2 (f ∷ []) t rest last s q at e z =
      let (w, st) = same_from_push (way []) rest (step_of f) s (sym at.way_is ∙ e) in
      absurd (no-push last q (w ∙ z))
  near-step2 (f ∷ g ∷ gs) t rest last s q at e z =
      let (w, st) = same_from_push (way (g ∷ gs)) rest (step_of f) s (sym at.way_is ∙ e) in
      let (w2, qt) = same_from_push (way gs) last (step_of g) q (w ∙ z) in
      subst (λ (y : PathStep). IsNear parent (plug (f ∷ g ∷ gs) t) y.number) qt (inr (frame-in (frame_number g) g gs (close f t) refl))

  pub near-above : (fs : List Frame) (t : Painted) (rest last : List PathStep) (s q : PathStep) (o : Option PathStep) → At es parent steps x fs t → steps ≡ rest ++ s ∷ [] → rest ≡ last ++ q ∷ [] → ((gs : List Frame) → last ≡ way gs → o ≡ above gs) → IsNear parent (plug fs t) (slot_of_link parent o)
  near-above [] t rest last s q o at e z abs = absurd (no-push rest s (sym at.way_is ∙ e))
  near-above (f ∷ []) t rest last s q o at e z abs =
      let (w, st) = same_from_push (way []) rest (step_of f) s (sym at.way_is ∙ e) in
      absurd (no-push last q (w ∙ z))
  near-above (f ∷ g ∷ gs) t rest last s q o at e z abs =
      let (w, st) = same_from_push (way (g ∷ gs)) rest (step_of f) s (sym at.way_is ∙ e) in
      let (w2, qt) = same_from_push (way gs) last (step_of g) q (w ∙ z) in
      near-link parent gs (close g (close f t)) o (abs gs (sym w2))

  pub near-uncle : (fs : List Frame) (t : Painted) (rest last : List PathStep) (s q : PathStep) → length es ≤ 4294967295 → At es parent steps x fs t → steps ≡ rest ++ s ∷ [] → rest ≡ last ++ q ∷ [] → link_red es (far_link es q) ≡ true → IsNear parent (plug fs t) (far_link es q)
  near-uncle [] t rest last s q few at e z r = absurd (no-push rest s (sym at.way_is ∙ e))
  near-uncle (f ∷ []) t rest last s q few at e z r =
      let (w, st) = same_from_push (way []) rest (step_of f) s (sym at.way_is ∙ e) in
      absurd (no-push last q (w ∙ z))
  near-uncle (f ∷ g ∷ gs) t rest last s q few at e z r =
      let (w, st) = same_from_push (way (g ∷ gs)) rest (step_of f) s (sym at.way_is ∙ e) in
      let (w2, qt) = same_from_push (way gs) last (step_of g) q (w ∙ z) in
      let (link, hangs, _) = split es parent (g ∷ gs) (close f t) at.stands in
      let far = frame-far es parent g gs link hangs in
      let red : red_top (beside g) ≡ true = sym (red-at-link es (beside g) (far_link es (step_of g)) few far) ∙ (ap (λ (i : PathStep). link_red es (far_link es i)) qt ∙ r) in
      let is : far_link es (step_of g) ≡ top (beside g) = Shape-top es (beside g) _ far in
      let whole : Painted = plug (f ∷ g ∷ gs) t in
      let there : 1 ≤ occurs (top (beside g)) whole = omega (arith, top-once (beside g) red, uncle-in (top (beside g)) f g t, occurs-plug (top (beside g)) gs (close g (close f t))) in
      subst (λ (y : PathStep). IsNear parent whole (far_link es y)) qt (subst (λ (k : ℕ). IsNear parent whole k) (sym is) (inr there))

-- one more turn
pub going-tells : (old mid new : List Entry) (parent x : ℕ) (steps : List PathStep) (a b c : List ℕ) (fs : List Frame) (t : Painted) → Going old mid parent steps x fs t → Tells (IsNear parent (plug fs t)) old mid a b
    → ((gs : List Frame) (s : Painted) → At mid parent steps x gs s → Tells (IsNear parent (plug gs s)) mid new b c) → Tells (IsNear parent (plug fs t)) old new a c
going-tells old mid new parent x steps a b c fs t (kept, (gs, s, at, e, o)) u next =
    tells-trans (IsNear parent (plug fs t)) old mid new a b c u
    (tells-as (IsNear parent (plug gs s)) (IsNear parent (plug fs t)) mid new b c (near-more parent (plug gs s) (plug fs t) (λ k. omega (arith, o k))) (next gs s at))

-- ---- an entry that is taken out

pub near-stood : (es : List Entry) (parent : ℕ) (steps : List PathStep) (t : Painted) (n : ℕ) → StandsInTree es steps t n → IsNear parent t n
near-stood es parent steps t n (fs, c, a, b, s) = inr (omega (arith, hit-same n, ap (occurs n) s.part, occurs-plug n fs (Node c a n b)))

pub near-spare : (es : List Entry) (parent : ℕ) (steps : List PathStep) (t : Painted) (n m : ℕ) → SpareAt es steps t n m → IsNear parent t m
near-spare es parent steps t n m (gs, d, a, b, s) = inr (omega (arith, hit-same m, ap (occurs m) s.stood.part, occurs-plug m gs (Node d a m b)))

pub near-spare-link : (es : List Entry) (parent : ℕ) (steps : List PathStep) (t : Painted) (n m : ℕ) (o : Option PathStep) → SpareAt es steps t n m → ((gs : List Frame) → steps ≡ way gs → o ≡ above gs) → IsNear parent t (slot_of_link parent o)
near-spare-link es parent steps t n m o (gs, d, a, b, s) abs =
    subst (λ (u : Painted). IsNear parent u (slot_of_link parent o)) s.stood.part (near-link parent gs (Node d a m b) o (abs gs s.stood.way_is))
