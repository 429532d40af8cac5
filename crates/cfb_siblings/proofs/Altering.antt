-- That the slots told so far go on to differ from what they were first.
use Rattle.std.proofs.Common.{◌≡◌, ◌≢◌, ◌⊎◌, inl, inr, ℕ, ◌<◌, ◌≤◌, Bool, true, false, cond, Option, Some, None, List, [], ◌∷◌, length, refl, ap, sym, ◌∙◌, subst, arith, get_or-set_same, get_or-set_other}
use Rattle.std.specs.Prelude.{Contains}
use Rattle.std.proofs.lemmas.Bool.{cases_eq}
use Rattle.cfb_format.specs.DirectoryEntry.{Entry, unallocated_entry}
use Rattle.cfb_format.specs.Siblings.{entry_at, is_red_color}
use Rattle.cfb_siblings.specs.declared.links.PathStep.{PathStep}
use Rattle.cfb_siblings.specs.Painted.{Painted, top, times_in, hit, occurs, color_if_red}
use Rattle.cfb_siblings.specs.Way.{Frame, InLeft, InRight, plug, around, beside, frame_number, is_left, step_of, above, name_at}
use Rattle.cfb_siblings.specs.Writes.{set_red, link_red}
use Rattle.cfb_siblings.specs.Taking.{Spot}
use Rattle.cfb_siblings.specs.Touched.{Noted, TouchesChanged, slot_of_link}
use Rattle.cfb_siblings.specs.Altered.{link_at, uncolored, ChangedBelow, ChangedAbove, StaysChanged, Altered, Shifts, Evens}
use Rattle.cfb_siblings.proofs.Tallies.{hit-same, counted}
use Rattle.cfb_siblings.proofs.Turns.{red-bound, false≢true}
use Rattle.cfb_siblings.proofs.Shifting.{around-frame, frame-count, link-same, red-changed}
use Rattle.cfb_siblings.proofs.Lowering.{red-there}

-- a slot apart from those of the frames has not the link above the place
outside : (k parent : ℕ) (gs : List Frame) → k ≢ parent → around k gs ≡ 0 → k ≢ slot_of_link parent (above gs)
outside k parent [] np z e = np e
outside k parent (g ∷ gs) np z e = absurd (omega (arith, around-frame k g gs, z, hit-same k, ap (hit k) e))

below-differs : (first es : List Entry) (parent : ℕ) (fs : List Frame) (x k : ℕ) → ChangedBelow first es parent fs x k → entry_at es k ≢ entry_at first k
below-differs first es parent fs x k b e = elim b.2 [ inl h ↦ h.1 e | inr h ↦ h (ap uncolored e) ]

above-differs : (first es : List Entry) (parent : ℕ) (fs : List Frame) (k : ℕ) → ChangedAbove first es parent fs k → uncolored (entry_at es k) ≢ uncolored (entry_at first k)
above-differs first es parent fs k a e =
    a.1 (link-same first es parent (above fs) (subst (λ (j : ℕ). uncolored (entry_at es j) ≡ uncolored (entry_at first j)) a.0 e))

stays-differs : (first es : List Entry) (parent : ℕ) (fs : List Frame) (x k : ℕ) → StaysChanged first es parent fs x k → entry_at es k ≢ entry_at first k
stays-differs first es parent fs x k st e = elim st [
  | inl name ↦ name (ap (λ (y : Entry). y.name) e)
  | inr w ↦ elim w [
    | inl b ↦ below-differs first es parent fs x k b e
    | inr a ↦ above-differs first es parent fs k a (ap uncolored e)
  ]
]

-- nothing more is written
pub altered-changed : (first es : List Entry) (parent : ℕ) (list : List ℕ) (fs : List Frame) (t : Painted) → Altered first es parent list fs t → TouchesChanged first es list
altered-changed first es parent list fs t al k has = stays-differs first es parent fs (top t) k (al.stays k (counted k list has))

-- all is made up for about the node of f
pub shifted-changed : (first es new : List Entry) (parent : ℕ) (f : Frame) (gs : List Frame) (t : Painted) (a b : List ℕ) → ((k : ℕ) → name_at new k ≡ name_at es k) → Altered first es parent a (f ∷ gs) t → Shifts es new parent f gs a b → TouchesChanged first new b
shifted-changed first es new parent f gs t a b names al sh k has = elim (cases_eq (times_in k a) 0) [
  | inl z ↦ elim (sh.told.only k (counted k b has)) [
    | inl h ↦ absurd (omega (arith, z, h))
    | inr ch ↦ λ e. ch (e ∙ sym (al.told k z))
  ]
  | inr nz ↦ elim (al.stays k (omega (arith, nz))) [
    | inl name ↦ λ e. name (sym (names k) ∙ ap (λ (y : Entry). y.name) e)
    | inr w ↦ elim w [
      | inl bl ↦ λ e.
          let kn : k ≢ frame_number f = λ q. absurd (omega (arith, around-frame k f gs, bl.1, hit-same k, ap (hit k) q)) in
          let same : entry_at new k ≡ entry_at es k = sh.elsewhere k kn (outside k parent gs bl.0 (omega (arith, around-frame k f gs, bl.1))) (omega (arith, around-frame k f gs, bl.1)) in
          below-differs first es parent (f ∷ gs) (top t) k bl (sym same ∙ e)
      | inr ab ↦ λ e.
          let at : uncolored (entry_at new (frame_number f)) ≡ uncolored (entry_at first (frame_number f)) = subst (λ (j : ℕ). uncolored (entry_at new j) ≡ uncolored (entry_at first j)) ab.0 (ap uncolored e) in
          ab.1 (sym sh.kept ∙ link-same first new parent (Some (step_of f)) at)
    ]
  ]
]

-- the node of f is short in turn
pub altered-up : (first es new : List Entry) (parent : ℕ) (f : Frame) (gs : List Frame) (t u : Painted) (a b : List ℕ) → ((k : ℕ) → name_at new k ≡ name_at es k) → ((k : ℕ) → occurs k (plug (f ∷ gs) t) ≤ 1) → occurs parent (plug (f ∷ gs) t) ≡ 0
    → top u ≡ frame_number f → Altered first es parent a (f ∷ gs) t → Evens false es new parent f gs a b → Altered first new parent b gs u
altered-up first es new parent f gs t u a b names once apart is al ev =
    let np : (k : ℕ) → 1 ≤ occurs k (plug (f ∷ gs) t) → k ≢ parent = λ k h e. absurd (omega (arith, h, apart, ap (λ j. occurs j (plug (f ∷ gs) t)) e)) in
    record {
      told = λ k z. ev.shifts.told.told k z ∙ al.told k (omega (arith, z, ev.shifts.told.kept k));
      stays = λ k h. elim (cases_eq (times_in k a) 0) [
        | inl z ↦ elim (ev.shifts.told.only k h) [
          | inl g ↦ absurd (omega (arith, z, g))
          | inr ch ↦ elim (cases_eq (occurs k (beside f)) 0) [
            | inl o ↦ absurd (ch (ev.alone refl k o))
            | inr o ↦ inr (inl (
              np k (omega (arith, frame-count k f gs t, o)),
              omega (arith, frame-count k f gs t, once k, o),
              inl (λ e. absurd (omega (arith, frame-count k f gs t, once k, o, hit-same k, ap (hit k) (e ∙ is))), λ e. ch (e ∙ sym (al.told k z))),
            ))
          ]
        ]
        | inr nz ↦ elim (al.stays k (omega (arith, nz))) [
          | inl name ↦ inl (λ e. name (sym (names k) ∙ e))
          | inr w ↦ elim w [
            | inl bl ↦ let same : entry_at new k ≡ entry_at es k = ev.alone refl k (omega (arith, around-frame k f gs, bl.1)) in
                inr (inl (
                  bl.0,
                  omega (arith, around-frame k f gs, bl.1),
                  inl (λ e. absurd (omega (arith, around-frame k f gs, bl.1, hit-same k, ap (hit k) (e ∙ is))), λ e. below-differs first es parent (f ∷ gs) (top t) k bl (sym same ∙ e)),
                ))
            | inr ab ↦ let n : ℕ = frame_number f in
                let hk : hit k n ≡ 1 = ap (λ j. hit j n) ab.0 ∙ hit-same n in
                inr (inl (
                  np k (omega (arith, frame-count k f gs t, hk)),
                  omega (arith, frame-count k f gs t, once k, hk),
                  inr (λ e.
                      let at : uncolored (entry_at new n) ≡ uncolored (entry_at first n) = subst (λ (j : ℕ). uncolored (entry_at new j) ≡ uncolored (entry_at first j)) ab.0 e in
                      ab.1 (sym ev.shifts.kept ∙ link-same first new parent (Some (step_of f)) at)),
                ))
          ]
        ]
      ];
    }

-- the red top of the place becomes black
pub painted-changed : (first es new : List Entry) (parent x : ℕ) (steps : List PathStep) (fs : List Frame) (t : Painted) (a b : List ℕ) → Spot es parent steps x fs t → link_red es x ≡ true → new ≡ set_red es x false → Noted a b x
    → Altered first es parent a fs t → TouchesChanged first new b
painted-changed first es new parent x steps fs t a b sp red ne noted al k has =
    let lt : x < length es = red-bound es x red in
    let painted : Entry = record (entry_at es x) { color = color_if_red false } in
    let on : (j : ℕ) → entry_at new j ≡ entry_at (set_red es x false) j = λ j. ap (λ (l : List Entry). entry_at l j) ne in
    let other : (j : ℕ) → j ≢ x → entry_at new j ≡ entry_at es j = λ j jx. on j ∙ get_or-set_other es x j painted unallocated_entry jx in
    let unc : (j : ℕ) → uncolored (entry_at new j) ≡ uncolored (entry_at es j) = λ j. elim (cases_eq j x) [
      | inl e ↦ subst (λ (i : ℕ). uncolored (entry_at new i) ≡ uncolored (entry_at es i)) (sym e) (ap uncolored (on x ∙ get_or-set_same es x painted unallocated_entry lt))
      | inr jx ↦ ap uncolored (other j jx)
    ] in
    elim (cases_eq (times_in k a) 0) [
      | inl z ↦ elim (noted.no_more k (counted k b has)) [
        | inl h ↦ absurd (omega (arith, z, h))
        | inr e ↦ let ch : entry_at new k ≢ entry_at es k = subst (λ (j : ℕ). entry_at new j ≢ entry_at es j) (sym e) (red-changed es new x false lt ne (λ q. false≢true (sym q ∙ red-there es x red))) in
            λ q. ch (q ∙ sym (al.told k z))
      ]
      | inr nz ↦ elim (al.stays k (omega (arith, nz))) [
        | inl name ↦ λ e. name (sym (ap (λ (y : Entry). y.name) (unc k)) ∙ ap (λ (y : Entry). y.name) e)
        | inr w ↦ elim w [
          | inl bl ↦ elim bl.2 [
            | inl h ↦ λ e. h.1 (sym (other k (λ q. h.0 (q ∙ sp.top_is))) ∙ e)
            | inr h ↦ λ e. h (sym (unc k) ∙ ap uncolored e)
          ]
          | inr ab ↦ λ e. above-differs first es parent fs k ab (sym (unc k) ∙ ap uncolored e)
        ]
      ]
    ]
