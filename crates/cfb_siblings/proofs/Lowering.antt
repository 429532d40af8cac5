-- That each slot is told by the rules for a missing black node whose entry they change, and no other.
use Rattle.std.proofs.Common.{◌≡◌, ◌≢◌, ◌⊎◌, inl, inr, ℕ, ◌<◌, ◌≤◌, Bool, true, false, cond, Option, Some, List, [], ◌∷◌, length, refl, ap, sym, ◌∙◌, subst, arith, get_or-set_same, get_or-set_other}
use Rattle.std.proofs.lemmas.Bool.{cases_eq}
use Rattle.std.proofs.lemmas.Bool.Decides.{nat_tests}
use Rattle.std.specs.Prelude.{nat_lt}
use Rattle.cfb_format.specs.DirectoryEntry.{Entry, unallocated_entry}
use Rattle.cfb_format.specs.Bytes.{no_stream}
use Rattle.cfb_format.specs.Siblings.{entry_at, is_red_color}
use Rattle.cfb_siblings.specs.declared.links.PathStep.{PathStep}
use Rattle.cfb_siblings.specs.Painted.{Painted, times_in, hit, occurs, color_if_red}
use Rattle.cfb_siblings.specs.Way.{Frame, InLeft, InRight, plug, Hangs, HasTree, around, beside, frame_number, is_left, is_red_frame, step_of, above}
use Rattle.cfb_siblings.specs.Writes.{set_red, relinked, link_red, far_link, far_turned, near_turned}
use Rattle.cfb_siblings.specs.Mending.{Edge, EvenedBy}
use Rattle.cfb_siblings.specs.Touched.{Noted, Tells, slot_of_link}
use Rattle.cfb_siblings.specs.Altered.{link_at, uncolored, Shifts, Evens}
use Rattle.cfb_siblings.proofs.Tallies.{hit-same}
use Rattle.cfb_siblings.proofs.Ordered.{occurs-same}
use Rattle.cfb_siblings.proofs.Turns.{red-bound, false≢true}
use Rattle.cfb_siblings.proofs.Touching.{But, but-swap, but-evened, but-lifted, but-tipped, tells-as, tells-by, tells-refl, tells-trans, told-far, told-lower, told-near, told-red}
use Rattle.cfb_siblings.proofs.Shifting.{Rotated, RotatedWith, rotated, around-frame, frame-count, beside-less, upper-apart, three-apart, frame-link, node-link, link-same, link-changed, red-changed, evens-turned, evens-alone, side-in, red-alone}
use Rattle.cfb_siblings.proofs.Evens.{Seen, even-5, even-6, even-7, side-bound, step-in}
use Rattle.cfb_siblings.proofs.Rising.{Tipped}

-- what is left open of a list's slots
abbrev Any : ℕ → Type 0
Any k = Unit {0}

abbrev Changed : List Entry → List Entry → ℕ → Type 0
Changed es new k = entry_at new k ≢ entry_at es k

not-red : (es : List Entry) (n : ℕ) → (is_red_color (entry_at es n).color) ≡ false → (is_red_color (entry_at es n).color) ≢ true
not-red es n e f = false≢true (sym e ∙ f)

module _ (es new : List Entry) (parent x : ℕ) (few : length es ≤ 4294967295) (p : PathStep) (o : Option PathStep) (s near far : ℕ) (red : Bool) (seen : Seen es p s near far red) (f : Frame) (gs : List Frame) (t : Painted) (ed : Edge es parent p x o f gs t) where
  at-step : (P : ℕ → Type 0) → P (frame_number f) → P p.number
  at-step P h = subst (λ (y : PathStep). P y.number) ed.step_is h

  at-link : (P : ℕ → Type 0) → P (slot_of_link parent (above gs)) → P (slot_of_link parent o)
  at-link P h = subst (λ (y : Option PathStep). P (slot_of_link parent y)) (sym ed.above_is) h

  here : (j : ℕ) → But es new (p.number ∷ s ∷ j ∷ slot_of_link parent o ∷ []) → But es new (frame_number f ∷ s ∷ j ∷ slot_of_link parent (above gs) ∷ [])
  here j b =
      subst (λ (y : Option PathStep). But es new (frame_number f ∷ s ∷ j ∷ slot_of_link parent y ∷ [])) ed.above_is (subst (λ (y : PathStep). But es new (y.number ∷ s ∷ j ∷ slot_of_link parent o ∷ [])) (sym ed.step_is) b)

  pub evens-7 : s ≢ no_stream → link_red es far ≡ true → new ≡ set_red (relinked (far_turned p.left es p.number s x false red) parent o s) far false
      → (a b c d e : List ℕ) → Noted a b p.number → Noted b c s → Noted c d (slot_of_link parent o) → Noted d e far → Evens true es new parent f gs a e
  unfolding times_in
  evens-7 sn fr ne a b c d e h i j l =
      let tu : RotatedWith es new parent f gs s far = (even-7 es parent x few p o s near far red seen f gs t new ed sn fr ne).2 in
      let b0 : But es new (p.number ∷ s ∷ slot_of_link parent o ∷ far ∷ []) = subst (λ (y : List Entry). But es y (p.number ∷ s ∷ slot_of_link parent o ∷ far ∷ [])) (sym ne) (but-evened p.left es parent o p.number s x far s false red) in
      evens-turned es new parent f gs s far a e tu
      (told-far (Changed es new) p.left es new parent o p.number s x far s false red a b c d e ne (at-step (Changed es new) tu.rotates.node) tu.side (at-link (Changed es new) tu.rotates.above_it) tu.below h i j l)
      (here far (but-swap es new (p.number ∷ s ∷ slot_of_link parent o ∷ far ∷ []) (p.number ∷ s ∷ far ∷ slot_of_link parent o ∷ []) (λ k z. omega (arith, z)) b0))

  pub evens-6 : s ≢ no_stream → link_red es near ≡ true → new ≡ relinked (near_turned p.left es p.number s x near red) parent o near
      → (a b c d e : List ℕ) → Noted a b p.number → Noted b c s → Noted c d near → Noted d e (slot_of_link parent o) → Evens true es new parent f gs a e
  evens-6 sn nr ne a b c d e h i j l =
      let tu : RotatedWith es new parent f gs s near = (even-6 es parent x few p o s near far red seen f gs t new ed sn nr ne).2 in
      evens-turned es new parent f gs s near a e tu
      (told-near (Changed es new) p.left es new parent o p.number s x near near red a b c d e ne (at-step (Changed es new) tu.rotates.node) tu.side tu.below (at-link (Changed es new) tu.rotates.above_it) h i j l)
      (here near (subst (λ (y : List Entry). But es y (p.number ∷ s ∷ near ∷ slot_of_link parent o ∷ [])) (sym ne) (but-lifted p.left es parent o p.number s x near near red)))

  pub evens-5 : s ≢ no_stream → link_red es near ≡ false → link_red es far ≡ false → (is_red_color (entry_at es s).color) ≡ false → new ≡ set_red es s true → (a b : List ℕ) → Noted a b s → Evens false es new parent f gs a b
  evens-5 sn nr fr sb ne a b h =
      evens-alone es new parent x p o f gs t a b ed (even-5 es parent x few p o s near far red seen f gs t new ed sn nr fr ne).1
      (told-red (Changed es new) es new s true a b ne (red-changed es new s true (side-bound es parent x p o s f gs t ed seen.s_is sn) ne (not-red es s sb)) h)
      (red-alone es new s true (beside f) (side-in es parent x s p o f gs t ed seen.s_is sn) ne)

module _ (es : List Entry) (parent x : ℕ) (p : PathStep) (o : Option PathStep) (f : Frame) (gs : List Frame) (t : Painted) (ed : Edge es parent p x o f gs t) where
  -- nothing is written
  pub evens-none : (a : List ℕ) → EvenedBy false es parent f gs t → Evens false es es parent f gs a a
  evens-none a ev = evens-alone es es parent x p o f gs t a a ed ev (tells-refl (Changed es es) es a) (λ k z. refl)

frame-hung : (es : List Entry) (parent : ℕ) (f : Frame) (gs : List Frame) (link : ℕ) → Hangs es parent (f ∷ gs) link → ((is_red_color (entry_at es (frame_number f)).color) ≡ is_red_frame f) × Hangs es parent gs (frame_number f)
frame-hung es parent (InLeft c n s) gs link h = (h.1, h.4)
frame-hung es parent (InRight c n s) gs link h = (h.1, h.4)

pub red-there : (es : List Entry) (n : ℕ) → link_red es n ≡ true → (is_red_color (entry_at es n).color) ≡ true
red-there es n r = let lt = red-bound es n r in let q : nat_lt n (length es) ≡ true = grind (arith, nat_tests) in rw q at r

-- the slot of the link above f is not that of f
link-apart : (parent : ℕ) (f : Frame) (gs : List Frame) (t : Painted) → ((k : ℕ) → occurs k (plug (f ∷ gs) t) ≤ 1) → occurs parent (plug (f ∷ gs) t) ≡ 0 → slot_of_link parent (above gs) ≢ frame_number f
link-apart parent f [] t once apart e = absurd (omega (arith, frame-count parent f [] t, apart, hit-same parent, ap (hit parent) e))
link-apart parent f (g ∷ gs) t once apart e =
    let n : ℕ = frame_number g in
    absurd (omega (arith, frame-count n f (g ∷ gs) t, around-frame n g gs, once n, hit-same n, ap (hit n) e))

-- what is told before the place below the red child is evened
abbrev pub IsTipped : PathStep → ℕ → ℕ → Option PathStep → ℕ → Type 0
IsTipped p s parent o k = (k ≡ p.number) ⊎ ((k ≡ s) ⊎ (k ≡ slot_of_link parent o))

-- after a red child went above p: what the other rules write then, and p's colour last
module _ (es mid new last : List Entry) (parent x s : ℕ) (few : length es ≤ 4294967295) (p : PathStep) (o : Option PathStep) (f f2 g2 : Frame) (gs : List Frame) (t : Painted) (ed : Edge es parent p x o f gs t) (s_is : s ≡ far_link es p) (s_red : link_red es s ≡ true) (ti : Tipped es mid parent p x s f gs t f2 g2)
    (r : Bool) (b c : List ℕ) (ev : Evens r mid new parent f2 (g2 ∷ gs) b c) (others : (k : ℕ) → k ≢ frame_number f → entry_at last k ≡ entry_at new k) (links : uncolored (entry_at last (frame_number f)) ≡ uncolored (entry_at new (frame_number f))) where
  same : step_of f2 ≡ step_of f
  same = ti.edge.step_is ∙ sym ed.step_is

  upper : frame_number g2 ≡ s
  upper = sym (ap (slot_of_link parent) ti.edge.above_is)

  occ : (k : ℕ) → occurs k (plug (f2 ∷ g2 ∷ gs) t) ≡ occurs k (plug (f ∷ gs) t)
  occ k = occurs-same (plug (f2 ∷ g2 ∷ gs) t) (plug (f ∷ gs) t) ti.list k

  there : s ≢ no_stream
  there e = absurd (omega (arith, red-bound es s s_red, few, e))

  out : occurs s (beside f2) ≡ 0
  out = omega (arith, frame-count s f2 (g2 ∷ gs) t, around-frame s g2 gs, occ s, ed.once s, hit-same s, ap (hit s) upper)

  far-is : s ≡ far_link es (step_of f)
  far-is = s_is ∙ ap (far_link es) (sym ed.step_is)

  turned-once : Rotated es mid parent f gs
  turned-once = rotated es mid parent s f f2 g2 gs t ed.stands ti.edge.stands same ed.once occ far-is there out

  s-apart : s ≢ frame_number f
  s-apart e = upper-apart f f2 g2 gs t same (λ k. omega (arith, occ k, ed.once k)) (sym e ∙ sym upper)

  node-changed : entry_at last (frame_number f) ≢ entry_at es (frame_number f)
  node-changed e =
      let l : far_link last (step_of f) ≡ far_link new (step_of f2) = ap (λ (y : Entry). cond (is_left f) y.right_sibling y.left_sibling) links ∙ ap (far_link new) (sym same) in
      let q : far_link last (step_of f) ≡ far_link es (step_of f) = ap (λ (y : Entry). cond (is_left f) y.right_sibling y.left_sibling) e in
      let at : far_link new (step_of f2) ≡ s = sym l ∙ (q ∙ sym far-is) in
      elim ev.far [
        | inl z ↦ there (sym at ∙ z)
        | inr h ↦ absurd (omega (arith, h, out, ap (λ (j : ℕ). occurs j (beside f2)) at))
      ]

  side-changed : entry_at last s ≢ entry_at es s
  side-changed e =
      let black : (is_red_color (entry_at new s).color) ≡ false = subst (λ (j : ℕ). (is_red_color (entry_at new j).color) ≡ false) upper ((frame-hung new parent g2 gs ev.hangs.0 ev.hangs.1).0 ∙ ti.black) in
      false≢true (sym black ∙ (ap (λ (y : Entry). is_red_color y.color) (sym (others s s-apart) ∙ e) ∙ red-there es s s_red))

  above-changed : entry_at last (slot_of_link parent (above gs)) ≢ entry_at es (slot_of_link parent (above gs))
  above-changed = link-changed es last parent (above gs) (λ e.
      let l : link_at last parent (above gs) ≡ link_at new parent (above gs) = link-same new last parent (above gs) (ap uncolored (others (slot_of_link parent (above gs)) (link-apart parent f gs t ed.once ed.apart))) in
      let n : link_at new parent (above gs) ≡ s = frame-link new parent gs (frame_number g2) (frame-hung new parent g2 gs ev.hangs.0 ev.hangs.1).1 ∙ upper in
      s-apart (sym n ∙ (sym l ∙ (e ∙ node-link es parent f gs t ed.stands))))

  lower-shifts : (a d : List ℕ) → Tells (IsTipped p s parent o) es mid a b → But es mid (p.number ∷ s ∷ slot_of_link parent o ∷ []) → 1 ≤ times_in p.number b → Tells (λ k. k ≡ p.number) new last c d → Shifts es last parent f gs a d
  lower-shifts a d first but pin step =
      let whole : Tells Any es last a d = tells-trans Any es new last a c d
      (tells-trans Any es mid new a b c (tells-as (IsTipped p s parent o) Any es mid a b (λ k h. tt) first) (tells-as (Changed mid new) Any mid new b c (λ k h. tt) ev.shifts.told))
      (tells-as (λ k. k ≡ p.number) Any new last c d (λ k h. tt) step) in
      let num : p.number ≡ frame_number f = ap (λ (y : PathStep). y.number) (sym ed.step_is) in
      let lnk : slot_of_link parent o ≡ slot_of_link parent (above gs) = ap (slot_of_link parent) ed.above_is in
      let told : (k : ℕ) → times_in k a ≡ 0 → 1 ≤ times_in k d → Changed es last k = λ k z h.
      elim (cases_eq (times_in k b) 0) [
        | inl zb ↦ let kp : k ≢ p.number = λ e. absurd (omega (arith, zb, pin, ap (λ j. times_in j b) e)) in
            let kn : k ≢ frame_number f = λ e. kp (e ∙ sym num) in
            elim (step.only k h) [
              | inl hc ↦ elim (ev.shifts.told.only k hc) [
                | inl hb ↦ absurd (omega (arith, zb, hb))
                | inr ch ↦ λ e. ch (sym (others k kn) ∙ (e ∙ sym (first.told k zb)))
              ]
              | inr e ↦ absurd (kp e)
            ]
        | inr nz ↦ elim (first.only k (omega (arith, nz))) [
          | inl ha ↦ absurd (omega (arith, z, ha))
          | inr w ↦ elim w [
            | inl e ↦ subst (Changed es last) (sym (e ∙ num)) node-changed
            | inr v ↦ elim v [
              | inl e ↦ subst (Changed es last) (sym e) side-changed
              | inr e ↦ subst (Changed es last) (sym (e ∙ lnk)) above-changed
            ]
          ]
        ]
      ] in
      record {
        told = tells-by Any (Changed es last) es last a d whole told;
        elsewhere = λ k kn kq z.
            let ks : k ≢ s = λ e. absurd (omega (arith, z, side-in es parent x s p o f gs t ed s_is there, ap (λ j. occurs j (beside f)) e)) in
            others k kn
            ∙ (ev.shifts.elsewhere k (λ e. kn (e ∙ ap (λ (y : PathStep). y.number) same)) (λ e. ks (e ∙ upper)) (omega (arith, z, beside-less f f2 g2 gs t same occ k))
            ∙ but.same k (three-apart k p.number s (slot_of_link parent o) (λ e. kn (e ∙ num)) ks (λ e. kq (e ∙ lnk))));
        kept = ap (λ (y : Entry). cond (is_left f) y.left_sibling y.right_sibling) links
            ∙ (ap (λ (y : PathStep). link_at new parent (Some y)) (sym same)
            ∙ (ev.shifts.kept ∙ (ap (λ (y : PathStep). link_at mid parent (Some y)) same ∙ turned-once.kept)));
      }

module _ (es mid new : List Entry) (parent x s : ℕ) (few : length es ≤ 4294967295) (p : PathStep) (o : Option PathStep) (f f2 g2 : Frame) (gs : List Frame) (t : Painted) (ed : Edge es parent p x o f gs t) (s_is : s ≡ far_link es p) (s_red : link_red es s ≡ true) (ti : Tipped es mid parent p x s f gs t f2 g2)
    (is : mid ≡ relinked (far_turned p.left es p.number s x true false) parent o s) (a b1 b2 b c : List ℕ) (h : Noted a b1 p.number) (i : Noted b1 b2 s) (j : Noted b2 b (slot_of_link parent o)) where
  first-told : Tells (IsTipped p s parent o) es mid a b
  first-told = told-lower (IsTipped p s parent o) p.left es mid parent o p.number s x s true false a b1 b2 b is (inl refl) (inr (inl refl)) (inr (inr refl)) h i j

  first-but : But es mid (p.number ∷ s ∷ slot_of_link parent o ∷ [])
  first-but = subst (λ (y : List Entry). But es y (p.number ∷ s ∷ slot_of_link parent o ∷ [])) (sym is) (but-tipped p.left es parent o p.number s x s true false)

  node-in : 1 ≤ times_in p.number b
  node-in = omega (arith, h.has, i.kept p.number, j.kept p.number)

  -- the place is evened then
  pub lower-done : Evens true mid new parent f2 (g2 ∷ gs) b c → Shifts es new parent f gs a c
  lower-done ev = lower-shifts es mid new new parent x s few p o f f2 g2 gs t ed s_is s_red ti true b c ev (λ k _. refl) refl a c first-told first-but node-in (tells-refl (λ k. k ≡ p.number) new c)

  -- or p becomes black
  pub lower-black : (last : List Entry) (d : List ℕ) → Evens false mid new parent f2 (g2 ∷ gs) b c → last ≡ set_red new p.number false → Noted c d p.number → Shifts es last parent f gs a d
  lower-black last d ev ne l =
      let num : p.number ≡ frame_number f = ap (λ (y : PathStep). y.number) (sym ed.step_is) in
      let lt : p.number < length new = omega (arith, ev.shifts.told.longer, first-told.longer, step-in es parent x p o f gs t ed) in
      let e : Entry = record (entry_at new p.number) { color = color_if_red false } in
      let on : (k : ℕ) → entry_at last k ≡ entry_at (set_red new p.number false) k = λ k. ap (λ (y : List Entry). entry_at y k) ne in
      lower-shifts es mid new last parent x s few p o f f2 g2 gs t ed s_is s_red ti false b c ev
      (λ k kn. on k ∙ get_or-set_other new p.number k e unallocated_entry (λ q. kn (q ∙ num)))
      (subst (λ (k : ℕ). uncolored (entry_at last k) ≡ uncolored (entry_at new k)) num (ap uncolored (on p.number ∙ get_or-set_same new p.number e unallocated_entry lt)))
      a d first-told first-but node-in (told-red (λ k. k ≡ p.number) new last p.number false c d ne refl l)
