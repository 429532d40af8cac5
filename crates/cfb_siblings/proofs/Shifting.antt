-- What a change about the node above the short place writes, and that it changes each slot that is told.
use Rattle.std.proofs.Common.{◌≡◌, ◌≢◌, ◌⊎◌, inl, inr, ℕ, ◌+◌, ◌<◌, ◌≤◌, Bool, true, false, cond, Option, Some, None, List, [], ◌∷◌, length, refl, ap, sym, ◌∙◌, subst, arith, get_or-set_same, get_or-set_other}
use Rattle.cfb_format.specs.DirectoryEntry.{Entry, unallocated_entry}
use Rattle.cfb_format.specs.Bytes.{no_stream}
use Rattle.cfb_format.specs.Siblings.{entry_at, is_red_color}
use Rattle.cfb_siblings.specs.declared.links.PathStep.{PathStep}
use Rattle.cfb_siblings.specs.Painted.{Painted, Leaf, Node, top, hit, times_in, occurs, color_if_red}
use Rattle.cfb_siblings.specs.Way.{Frame, InLeft, InRight, close, plug, around, HasTree, Hangs, beside, frame_number, is_left, is_red_frame, step_of, above}
use Rattle.cfb_siblings.specs.Writes.{set_red, far_link}
use Rattle.cfb_siblings.specs.Touched.{Tells, slot_of_link}
use Rattle.cfb_siblings.specs.Altered.{link_at, uncolored, Shifts, Evens}
use Rattle.cfb_siblings.specs.Mending.{Edge, EvenedBy}
use Rattle.cfb_siblings.proofs.Tallies.{hit-same, hit-cases}
use Rattle.cfb_siblings.proofs.Zip.{Shape-top, split, occurs-plug}
use Rattle.cfb_siblings.proofs.Turned.{red-color}
use Rattle.cfb_siblings.proofs.Turns.{frame-far}
use Rattle.cfb_siblings.proofs.Touching.{But}

-- ---- frames

pub around-frame : (k : ℕ) (f : Frame) (gs : List Frame) → around k (f ∷ gs) ≡ hit k (frame_number f) + (occurs k (beside f) + around k gs)
around-frame k (InLeft c n s) gs = omega arith
around-frame k (InRight c n s) gs = omega arith

pub frame-count : (k : ℕ) (f : Frame) (gs : List Frame) (t : Painted) → occurs k (plug (f ∷ gs) t) ≡ hit k (frame_number f) + (occurs k (beside f) + (around k gs + occurs k t))
frame-count k f gs t = omega (arith, occurs-plug k (f ∷ gs) t, around-frame k f gs)

pub top-apart : (u : Painted) (s : ℕ) → occurs s u ≡ 0 → s ≢ no_stream → top u ≢ s
top-apart Leaf s z ne e = ne (sym e)
top-apart (Node c a n b) s z ne e = absurd (omega (arith, hit-same n, z, ap (λ j. hit j n) e))

pub top-inside : (u : Painted) → (top u ≡ no_stream) ⊎ (1 ≤ occurs (top u) u)
top-inside Leaf = inl refl
top-inside (Node c a n b) = inr (omega (arith, hit-same n))

close-top : (f : Frame) (t : Painted) → top (close f t) ≡ frame_number f
close-top (InLeft c n s) t = refl
close-top (InRight c n s) t = refl

pub frame-link : (es : List Entry) (parent : ℕ) (gs : List Frame) (link : ℕ) → Hangs es parent gs link → link_at es parent (above gs) ≡ link
frame-link es parent [] link h = h.1
frame-link es parent (InLeft c n s ∷ gs) link h = h.2
frame-link es parent (InRight c n s ∷ gs) link h = h.2

-- the link above a place is that to the top of what stands there
pub place-link : (es : List Entry) (parent : ℕ) (fs : List Frame) (t : Painted) → HasTree es parent (plug fs t) → link_at es parent (above fs) ≡ top t
place-link es parent fs t st =
    let (link, hangs, s) = split es parent fs t st in frame-link es parent fs link hangs ∙ Shape-top es t link s

pub node-link : (es : List Entry) (parent : ℕ) (f : Frame) (gs : List Frame) (t : Painted) → HasTree es parent (plug (f ∷ gs) t) → link_at es parent (above gs) ≡ frame_number f
node-link es parent f gs t st = place-link es parent gs (close f t) st ∙ close-top f t

pub far-top : (es : List Entry) (parent : ℕ) (f : Frame) (gs : List Frame) (t : Painted) → HasTree es parent (plug (f ∷ gs) t) → far_link es (step_of f) ≡ top (beside f)
far-top es parent f gs t st =
    let (link, hangs, s) = split es parent (f ∷ gs) t st in Shape-top es (beside f) (far_link es (step_of f)) (frame-far es parent f gs link hangs)

-- ---- entries that differ

-- by the link above a place
pub link-same : (es new : List Entry) (parent : ℕ) (o : Option PathStep) → uncolored (entry_at new (slot_of_link parent o)) ≡ uncolored (entry_at es (slot_of_link parent o)) → link_at new parent o ≡ link_at es parent o
link-same es new parent None e = ap (λ (x : Entry). x.child) e
link-same es new parent (Some s) e = ap (λ (x : Entry). cond s.left x.left_sibling x.right_sibling) e

pub link-changed : (es new : List Entry) (parent : ℕ) (o : Option PathStep) → link_at new parent o ≢ link_at es parent o → entry_at new (slot_of_link parent o) ≢ entry_at es (slot_of_link parent o)
link-changed es new parent o ne e = ne (link-same es new parent o (ap uncolored e))

-- by the other link
far-changed : (es new : List Entry) (s : PathStep) → far_link new s ≢ far_link es s → entry_at new s.number ≢ entry_at es s.number
far-changed es new s ne e = ne (ap (λ (x : Entry). cond s.left x.right_sibling x.left_sibling) e)

-- by the colour
pub red-changed : (es new : List Entry) (n : ℕ) (c : Bool) → n < length es → new ≡ set_red es n c → (is_red_color (entry_at es n).color) ≢ c → entry_at new n ≢ entry_at es n
red-changed es new n c lt is ne e =
    let same : entry_at (set_red es n c) n ≡ record (entry_at es n) { color = color_if_red c } = get_or-set_same es n (record (entry_at es n) { color = color_if_red c }) unallocated_entry lt in
    ne (ap (λ (x : Entry). is_red_color x.color) (sym e ∙ (ap (λ (l : List Entry). entry_at l n) is ∙ same)) ∙ red-color c)

-- ---- a node comes above that of f

pub record Rotated (es new : List Entry) (parent : ℕ) (f : Frame) (gs : List Frame) : Type 0 where
  pub node : entry_at new (frame_number f) ≢ entry_at es (frame_number f)
  pub above_it : entry_at new (slot_of_link parent (above gs)) ≢ entry_at es (slot_of_link parent (above gs))
  pub far : (far_link new (step_of f) ≡ no_stream) ⊎ (1 ≤ occurs (far_link new (step_of f)) (beside f))
  pub hangs : (link : ℕ) × Hangs new parent gs link
  pub kept : link_at new parent (Some (step_of f)) ≡ link_at es parent (Some (step_of f))

-- f2 is f with another part beside the place, below g2
pub beside-less : (f f2 g2 : Frame) (gs : List Frame) (t : Painted) → step_of f2 ≡ step_of f → ((k : ℕ) → occurs k (plug (f2 ∷ g2 ∷ gs) t) ≡ occurs k (plug (f ∷ gs) t)) → (k : ℕ) → occurs k (beside f2) ≤ occurs k (beside f)
beside-less f f2 g2 gs t same occ k =
    omega (arith, frame-count k f gs t, frame-count k f2 (g2 ∷ gs) t, around-frame k g2 gs, occ k, ap (λ (y : PathStep). hit k y.number) same)

pub upper-apart : (f f2 g2 : Frame) (gs : List Frame) (t : Painted) → step_of f2 ≡ step_of f → ((k : ℕ) → occurs k (plug (f2 ∷ g2 ∷ gs) t) ≤ 1) → frame_number f ≢ frame_number g2
upper-apart f f2 g2 gs t same once e =
    let n : ℕ = frame_number f in
    absurd (omega (arith, frame-count n f2 (g2 ∷ gs) t, around-frame n g2 gs, once n, hit-same n, ap (λ (y : PathStep). hit n y.number) same, ap (hit n) e))

pub rotated : (es new : List Entry) (parent s : ℕ) (f f2 g2 : Frame) (gs : List Frame) (t : Painted) → HasTree es parent (plug (f ∷ gs) t) → HasTree new parent (plug (f2 ∷ g2 ∷ gs) t)
    → step_of f2 ≡ step_of f → ((k : ℕ) → occurs k (plug (f ∷ gs) t) ≤ 1) → ((k : ℕ) → occurs k (plug (f2 ∷ g2 ∷ gs) t) ≡ occurs k (plug (f ∷ gs) t))
    → s ≡ far_link es (step_of f) → s ≢ no_stream → occurs s (beside f2) ≡ 0 → Rotated es new parent f gs
rotated es new parent s f f2 g2 gs t st st2 same once occ is sn out =
    let far : far_link new (step_of f) ≡ top (beside f2) = sym (ap (far_link new) same) ∙ far-top new parent f2 (g2 ∷ gs) t st2 in
    let up : frame_number f ≢ frame_number g2 = upper-apart f f2 g2 gs t same (λ k. omega (arith, occ k, once k)) in
    let (link, hangs, _) = split new parent gs (close g2 (close f2 t)) st2 in
    record {
      node = far-changed es new (step_of f) (λ e. top-apart (beside f2) s out sn (sym far ∙ (e ∙ sym is)));
      above_it = link-changed es new parent (above gs) (λ e. up (sym (node-link es parent f gs t st) ∙ (sym e ∙ node-link new parent g2 gs (close f2 t) st2)));
      far = elim (top-inside (beside f2)) [
        | inl e ↦ inl (far ∙ e)
        | inr h ↦ inr (subst (λ (j : ℕ). 1 ≤ occurs j (beside f)) (sym far) (omega (arith, h, beside-less f f2 g2 gs t same occ (top (beside f2)))))
      ];
      hangs = (link, hangs);
      kept = sym (ap (λ (y : PathStep). link_at new parent (Some y)) same) ∙ (place-link new parent (f2 ∷ g2 ∷ gs) t st2 ∙ sym (place-link es parent (f ∷ gs) t st));
    }

-- so do s and j, of the part beside the place
pub record RotatedWith (es new : List Entry) (parent : ℕ) (f : Frame) (gs : List Frame) (s j : ℕ) : Type 0 where
  pub rotates : Rotated es new parent f gs
  pub side : entry_at new s ≢ entry_at es s
  pub side_in : 1 ≤ occurs s (beside f)
  pub below : entry_at new j ≢ entry_at es j
  pub below_in : 1 ≤ occurs j (beside f)

apart-hit : (k n : ℕ) → k ≢ n → hit k n ≡ 0
apart-hit k n ne = elim (hit-cases k n) [ inl e ↦ absurd (ne e) | inr z ↦ z ]

not-in : (u : Painted) (k n : ℕ) → occurs k u ≡ 0 → 1 ≤ occurs n u → k ≢ n
not-in u k n z h e = absurd (omega (arith, z, h, ap (λ i. occurs i u) e))

pub three-apart : (k n m o : ℕ) → k ≢ n → k ≢ m → k ≢ o → times_in k (n ∷ m ∷ o ∷ []) ≡ 0
unfolding times_in
three-apart k n m o a b c = omega (arith, apart-hit k n a, apart-hit k m b, apart-hit k o c)

pub four-apart : (k n m o p : ℕ) → k ≢ n → k ≢ m → k ≢ o → k ≢ p → times_in k (n ∷ m ∷ o ∷ p ∷ []) ≡ 0
unfolding times_in
four-apart k n m o p a b c d = omega (arith, apart-hit k n a, apart-hit k m b, apart-hit k o c, apart-hit k p d)

-- the place is evened by a rotation
pub evens-turned : (es new : List Entry) (parent : ℕ) (f : Frame) (gs : List Frame) (s j : ℕ) (a b : List ℕ) → RotatedWith es new parent f gs s j
    → Tells (λ k. entry_at new k ≢ entry_at es k) es new a b → But es new (frame_number f ∷ s ∷ j ∷ slot_of_link parent (above gs) ∷ []) → Evens true es new parent f gs a b
evens-turned es new parent f gs s j a b tu tells but = record {
  shifts = record {
    told = tells;
    elsewhere = λ k kn kq z. but.same k (four-apart k (frame_number f) s j (slot_of_link parent (above gs)) kn (not-in (beside f) k s z tu.side_in) (not-in (beside f) k j z tu.below_in) kq);
    kept = tu.rotates.kept;
  };
  far = tu.rotates.far;
  hangs = tu.rotates.hangs;
  alone = λ e. absurd (let q : true ≡ false = e in cc);
}

-- only the part beside the place is written
pub evens-alone : (es new : List Entry) (parent x : ℕ) (p : PathStep) (o : Option PathStep) (f : Frame) (gs : List Frame) (t : Painted) (a b : List ℕ) → Edge es parent p x o f gs t → EvenedBy false new parent f gs t
    → Tells (λ k. entry_at new k ≢ entry_at es k) es new a b → ((k : ℕ) → occurs k (beside f) ≡ 0 → entry_at new k ≡ entry_at es k) → Evens false es new parent f gs a b
evens-alone es new parent x p o f gs t a b ed (l, r, st, list, bal) tells alone =
    let n : ℕ = frame_number f in
    let same : entry_at new n ≡ entry_at es n = alone n (omega (arith, frame-count n f gs t, ed.once n, hit-same n)) in
    let far : far_link new (step_of f) ≡ top (beside f) = ap (λ (e : Entry). cond (is_left f) e.right_sibling e.left_sibling) same ∙ far-top es parent f gs t ed.stands in
    let (link, hangs, _) = split new parent gs (Node (is_red_frame f) l n r) st in
    record {
      shifts = record { told = tells; elsewhere = λ k kn kq z. alone k z; kept = ap (λ (e : Entry). cond (is_left f) e.left_sibling e.right_sibling) same };
      far = elim (top-inside (beside f)) [ inl e ↦ inl (far ∙ e) | inr h ↦ inr (subst (λ (i : ℕ). 1 ≤ occurs i (beside f)) (sym far) h) ];
      hangs = (link, hangs);
      alone = λ _. alone;
    }

-- the other child stands in that part
pub side-in : (es : List Entry) (parent x s : ℕ) (p : PathStep) (o : Option PathStep) (f : Frame) (gs : List Frame) (t : Painted) → Edge es parent p x o f gs t → s ≡ far_link es p → s ≢ no_stream → 1 ≤ occurs s (beside f)
side-in es parent x s p o f gs t ed is sn =
    let e : s ≡ top (beside f) = is ∙ (ap (far_link es) (sym ed.step_is) ∙ far-top es parent f gs t ed.stands) in
    elim (top-inside (beside f)) [
      | inl q ↦ absurd (sn (e ∙ q))
      | inr h ↦ subst (λ (i : ℕ). 1 ≤ occurs i (beside f)) (sym e) h
    ]

pub red-alone : (es new : List Entry) (s : ℕ) (c : Bool) (u : Painted) → 1 ≤ occurs s u → new ≡ set_red es s c → (k : ℕ) → occurs k u ≡ 0 → entry_at new k ≡ entry_at es k
red-alone es new s c u h is k z =
    ap (λ (l : List Entry). entry_at l k) is ∙ get_or-set_other es s k (record (entry_at es s) { color = color_if_red c }) unallocated_entry (not-in u k s z h)
