-- The slots that the repair after a removal may touch.
use Rattle.std.proofs.Common.{◌≡◌, ◌≢◌, inr, ℕ, ◌≤◌, Option, true, List, ◌∷◌, length, refl, ap, sym, ◌∙◌, subst, arith}
use Rattle.cfb_format.specs.Bytes.{no_stream}
use Rattle.cfb_format.specs.DirectoryEntry.{Entry}
use Rattle.cfb_format.specs.Siblings.{entry_at}
use Rattle.cfb_siblings.specs.declared.links.PathStep.{PathStep}
use Rattle.cfb_siblings.specs.Painted.{Painted, Leaf, Node, top, Shape, occurs}
use Rattle.cfb_siblings.specs.Way.{Frame, InLeft, InRight, plug, close, frame_number, red_top}
use Rattle.cfb_siblings.specs.Writes.{link_red, far_link, near_below, far_below}
use Rattle.cfb_siblings.specs.Taking.{Spot}
use Rattle.cfb_siblings.specs.Mending.{Edge}
use Rattle.cfb_siblings.specs.Touched.{IsNear, Tells, slot_of_link}
use Rattle.cfb_siblings.proofs.Tallies.{hit-same}
use Rattle.cfb_siblings.proofs.Zip.{Shape-top, split, occurs-plug}
use Rattle.cfb_siblings.proofs.Ordered.{occurs-same}
use Rattle.cfb_siblings.proofs.Lifting.{top-once}
use Rattle.cfb_siblings.proofs.Turns.{frame-in, top-in, red-at-link}
use Rattle.cfb_siblings.proofs.Near.{near-link, near-more}
use Rattle.cfb_siblings.proofs.Touching.{tells-as, tells-trans}
use Rattle.cfb_siblings.proofs.Rising.{top-red, Risen, Tipped}

-- the red top of the short place
pub near-spot : (es : List Entry) (parent x : ℕ) (steps : List PathStep) (fs : List Frame) (t : Painted) → length es ≤ 4294967295 → Spot es parent steps x fs t → link_red es x ≡ true → IsNear parent (plug fs t) x
near-spot es parent x steps fs t few sp r = subst (λ (k : ℕ). IsNear parent (plug fs t) k) (sym sp.top_is) (inr (top-in fs t (sym (top-red es parent x steps fs t few sp) ∙ r)))

module _ (es : List Entry) (parent x : ℕ) (p : PathStep) (o : Option PathStep) where
  pub edge-step : (f : Frame) (gs : List Frame) (t : Painted) → Edge es parent p x o f gs t → IsNear parent (plug (f ∷ gs) t) p.number
  edge-step f gs t ed = subst (λ (y : PathStep). IsNear parent (plug (f ∷ gs) t) y.number) ed.step_is (inr (frame-in (frame_number f) f gs t refl))

  pub edge-link : (f : Frame) (gs : List Frame) (t : Painted) → Edge es parent p x o f gs t → IsNear parent (plug (f ∷ gs) t) (slot_of_link parent o)
  edge-link f gs t ed = near-link parent gs (close f t) o ed.above_is

  module _ (s : ℕ) (s_is : s ≡ far_link es p) where
    -- the other child
    pub edge-side : (f : Frame) (gs : List Frame) (t : Painted) → Edge es parent p x o f gs t → s ≢ no_stream → IsNear parent (plug (f ∷ gs) t) s
    edge-side (InLeft c pn Leaf) gs t ed sn =
        let (link, hangs, sh) = split es parent (InLeft c pn Leaf ∷ gs) t ed.stands in absurd (sn (s_is ∙ (ap (far_link es) (sym ed.step_is) ∙ hangs.3)))
    edge-side (InRight c pn Leaf) gs t ed sn =
        let (link, hangs, sh) = split es parent (InRight c pn Leaf ∷ gs) t ed.stands in absurd (sn (s_is ∙ (ap (far_link es) (sym ed.step_is) ∙ hangs.3)))
    edge-side (InLeft c pn (Node d a s0 b)) gs t ed sn =
        let (link, hangs, sh) = split es parent (InLeft c pn (Node d a s0 b) ∷ gs) t ed.stands in
        let is : s ≡ s0 = s_is ∙ (ap (far_link es) (sym ed.step_is) ∙ hangs.3.0) in
        subst (λ (k : ℕ). IsNear parent (plug (InLeft c pn (Node d a s0 b) ∷ gs) t) k) (sym is) (inr (omega (arith, occurs-plug s0 gs (close (InLeft c pn (Node d a s0 b)) t), hit-same s0)))
    edge-side (InRight c pn (Node d a s0 b)) gs t ed sn =
        let (link, hangs, sh) = split es parent (InRight c pn (Node d a s0 b) ∷ gs) t ed.stands in
        let is : s ≡ s0 = s_is ∙ (ap (far_link es) (sym ed.step_is) ∙ hangs.3.0) in
        subst (λ (k : ℕ). IsNear parent (plug (InRight c pn (Node d a s0 b) ∷ gs) t) k) (sym is) (inr (omega (arith, occurs-plug s0 gs (close (InRight c pn (Node d a s0 b)) t), hit-same s0)))

    module _ (few : length es ≤ 4294967295) (j : ℕ) (red : link_red es j ≡ true) where
      -- a red top below the other child
      red-below : (w u : Painted) (link : ℕ) → Shape es link u → j ≡ link → ((k : ℕ) → occurs k u ≤ occurs k w) → IsNear parent w j
      red-below w u link sh e inside =
          let r : red_top u ≡ true = sym (red-at-link es u link few sh) ∙ (ap (link_red es) (sym e) ∙ red) in
          subst (λ (k : ℕ). IsNear parent w k) (sym (e ∙ Shape-top es u link sh)) (inr (omega (arith, top-once u r, inside (top u))))

      pub edge-near : (f : Frame) (gs : List Frame) (t : Painted) → Edge es parent p x o f gs t → s ≢ no_stream → j ≡ near_below es p s → IsNear parent (plug (f ∷ gs) t) j
      edge-near (InLeft c pn Leaf) gs t ed sn e =
          let (link, hangs, sh) = split es parent (InLeft c pn Leaf ∷ gs) t ed.stands in absurd (sn (s_is ∙ (ap (far_link es) (sym ed.step_is) ∙ hangs.3)))
      edge-near (InRight c pn Leaf) gs t ed sn e =
          let (link, hangs, sh) = split es parent (InRight c pn Leaf ∷ gs) t ed.stands in absurd (sn (s_is ∙ (ap (far_link es) (sym ed.step_is) ∙ hangs.3)))
      edge-near (InLeft c pn (Node d a s0 b)) gs t ed sn e =
          let f : Frame = InLeft c pn (Node d a s0 b) in
          let (link, hangs, sh) = split es parent (f ∷ gs) t ed.stands in
          let is : s ≡ s0 = s_is ∙ (ap (far_link es) (sym ed.step_is) ∙ hangs.3.0) in
          let at : j ≡ (entry_at es s0).left_sibling = e ∙ rw (← ed.step_is, is) refl in
          red-below (plug (f ∷ gs) t) a (entry_at es s0).left_sibling hangs.3.3 at (λ k. omega (arith, occurs-plug k gs (close f t)))
      edge-near (InRight c pn (Node d b s0 a)) gs t ed sn e =
          let f : Frame = InRight c pn (Node d b s0 a) in
          let (link, hangs, sh) = split es parent (f ∷ gs) t ed.stands in
          let is : s ≡ s0 = s_is ∙ (ap (far_link es) (sym ed.step_is) ∙ hangs.3.0) in
          let at : j ≡ (entry_at es s0).right_sibling = e ∙ rw (← ed.step_is, is) refl in
          red-below (plug (f ∷ gs) t) a (entry_at es s0).right_sibling hangs.3.4 at (λ k. omega (arith, occurs-plug k gs (close f t)))

      pub edge-far : (f : Frame) (gs : List Frame) (t : Painted) → Edge es parent p x o f gs t → s ≢ no_stream → j ≡ far_below es p s → IsNear parent (plug (f ∷ gs) t) j
      edge-far (InLeft c pn Leaf) gs t ed sn e =
          let (link, hangs, sh) = split es parent (InLeft c pn Leaf ∷ gs) t ed.stands in absurd (sn (s_is ∙ (ap (far_link es) (sym ed.step_is) ∙ hangs.3)))
      edge-far (InRight c pn Leaf) gs t ed sn e =
          let (link, hangs, sh) = split es parent (InRight c pn Leaf ∷ gs) t ed.stands in absurd (sn (s_is ∙ (ap (far_link es) (sym ed.step_is) ∙ hangs.3)))
      edge-far (InLeft c pn (Node d a s0 b)) gs t ed sn e =
          let f : Frame = InLeft c pn (Node d a s0 b) in
          let (link, hangs, sh) = split es parent (f ∷ gs) t ed.stands in
          let is : s ≡ s0 = s_is ∙ (ap (far_link es) (sym ed.step_is) ∙ hangs.3.0) in
          let at : j ≡ (entry_at es s0).right_sibling = e ∙ rw (← ed.step_is, is) refl in
          red-below (plug (f ∷ gs) t) b (entry_at es s0).right_sibling hangs.3.4 at (λ k. omega (arith, occurs-plug k gs (close f t)))
      edge-far (InRight c pn (Node d b s0 a)) gs t ed sn e =
          let f : Frame = InRight c pn (Node d b s0 a) in
          let (link, hangs, sh) = split es parent (f ∷ gs) t ed.stands in
          let is : s ≡ s0 = s_is ∙ (ap (far_link es) (sym ed.step_is) ∙ hangs.3.0) in
          let at : j ≡ (entry_at es s0).left_sibling = e ∙ rw (← ed.step_is, is) refl in
          red-below (plug (f ∷ gs) t) b (entry_at es s0).left_sibling hangs.3.3 at (λ k. omega (arith, occurs-plug k gs (close f t)))

-- after the other child, which was red, went above
pub tipped-tells : (es mid new : List Entry) (parent x s : ℕ) (p : PathStep) (f : Frame) (gs : List Frame) (t : Painted) (f2 g2 : Frame) (a b c : List ℕ) → Tipped es mid parent p x s f gs t f2 g2
    → Tells (IsNear parent (plug (f ∷ gs) t)) es mid a b → Tells (IsNear parent (plug (f2 ∷ g2 ∷ gs) t)) mid new b c → Tells (IsNear parent (plug (f ∷ gs) t)) es new a c
tipped-tells es mid new parent x s p f gs t f2 g2 a b c ti u v =
    let w : Painted = plug (f ∷ gs) t in
    let w2 : Painted = plug (f2 ∷ g2 ∷ gs) t in
    tells-trans (IsNear parent w) es mid new a b c u (tells-as (IsNear parent w2) (IsNear parent w) mid new b c (near-more parent w2 w (λ k. omega (arith, occurs-same w2 w ti.list k))) v)

-- one more step up
pub risen-tells : (old mid new : List Entry) (parent x : ℕ) (steps : List PathStep) (a b c : List ℕ) (fs : List Frame) (t : Painted) → Risen old mid parent steps x fs t → Tells (IsNear parent (plug fs t)) old mid a b
    → ((gs : List Frame) (s : Painted) → Spot mid parent steps x gs s → Tells (IsNear parent (plug gs s)) mid new b c) → Tells (IsNear parent (plug fs t)) old new a c
risen-tells old mid new parent x steps a b c fs t (kept, (gs, s, sp, same, sh)) u next =
    tells-trans (IsNear parent (plug fs t)) old mid new a b c u
    (tells-as (IsNear parent (plug gs s)) (IsNear parent (plug fs t)) mid new b c (near-more parent (plug gs s) (plug fs t) (λ k. omega (arith, occurs-same (plug gs s) (plug fs t) same k))) (next gs s sp))
