-- An entry is taken out of a storage: the slots that are told of it are those that changed.
use Rattle.std.proofs.Common.{◌≡◌, ◌≢◌, ◌⊎◌, inl, inr, ℕ, ◌<◌, ◌≤◌, cond, Option, List, [], ◌∷◌, ◌++◌, length, refl, ap, sym, ◌∙◌, subst, arith, get_or-set_same, get_or-set_other, append_assoc, eqb}
use Rattle.std.proofs.lemmas.Bool.{cases_eq}
use Rattle.cfb_format.specs.DirectoryEntry.{Entry, unallocated_entry}
use Rattle.cfb_format.specs.Bytes.{no_stream}
use Rattle.cfb_format.specs.Names.{Cases, name_cmp}
use Rattle.cfb_format.specs.Siblings.{entry_at, RisesByName}
use Rattle.std.specs.declared.cmp.Ordering.TheVariants.{Less}
use Rattle.cfb_siblings.specs.declared.links.PathStep.{PathStep}
use Rattle.cfb_siblings.specs.Painted.{Painted, Leaf, Node, top, tree_numbers, times_in, occurs}
use Rattle.cfb_siblings.specs.Way.{Frame, plug, around, before, behind, way, above, HasTree, name_at}
use Rattle.cfb_siblings.specs.Order.{AllAbove, Dir}
use Rattle.cfb_siblings.specs.Writes.{relinked}
use Rattle.cfb_siblings.specs.Taking.{StandsInTree, SpareAt, adopted, vacated}
use Rattle.cfb_siblings.specs.Touched.{Noted, Tells, slot_of_link}
use Rattle.cfb_siblings.specs.Altered.{link_at, StaysChanged, AlteredAt}
use Rattle.cfb_siblings.proofs.Zip.{numbers-plug, occurs-plug}
use Rattle.cfb_siblings.proofs.Ordered.{middle, not-below-itself}
use Rattle.cfb_siblings.proofs.Turns.{in-storage, kept-relinked}
use Rattle.cfb_siblings.proofs.Removed.{cut-in, freed-apart}
use Rattle.cfb_siblings.proofs.Touching.{but-relinked, told-taken}
use Rattle.cfb_siblings.proofs.Shifting.{top-apart, place-link}

-- the slots that are told
abbrev IsTold : ℕ → Option PathStep → ℕ → ℕ → ℕ → Type 0
IsTold parent o n m k = (k ≡ slot_of_link parent o) ⊎ ((k ≡ n) ⊎ (k ≡ m))

vacated-name : (es : List Entry) (n m : ℕ) → n < length es → n ≢ m → name_at (vacated es n m) n ≡ name_at es m
vacated-name es n m lt ne =
    let e : Entry = record (entry_at es m) { left_sibling = (entry_at es n).left_sibling; right_sibling = (entry_at es n).right_sibling; color = (entry_at es n).color } in
    ap (λ (x : Entry). x.name) (get_or-set_other (adopted es n m) m n unallocated_entry unallocated_entry ne ∙ get_or-set_same es n e unallocated_entry lt)

pub taken-altered : (cases : Cases) (es mid : List Entry) (parent n m : ℕ) (t : Painted) (old steps : List PathStep) (up : ℕ) (o : Option PathStep) → length es ≤ 4294967295 → Dir cases es parent t → StandsInTree es old t n → SpareAt es steps t n m
    → up ≡ cond (eqb (entry_at es m).right_sibling no_stream) (entry_at es m).left_sibling (entry_at es m).right_sibling → ((gs : List Frame) → steps ≡ way gs → o ≡ above gs) → mid ≡ vacated (relinked es parent o up) n m
    → (b c d : List ℕ) → Noted [] b (slot_of_link parent o) → Noted b c n → Noted c d m → entry_at es m ≢ unallocated_entry → AlteredAt es mid parent steps up d
unfolding times_in
taken-altered cases es mid parent n m t old steps up o few dir stands (gs, x, u, v, sp) eup eo emid b c d h i j used =
    let (r, nin, cut) = cut-in cases es mid parent n m t old steps up o few dir stands gs x u v sp eup eo emid in
    let told : Tells (IsTold parent o n m) es mid [] d = told-taken (IsTold parent o n m) es mid parent o n m up [] b c d emid (inl refl) (inr (inl refl)) (inr (inr refl)) h i j in
    let ab : o ≡ above gs = eo gs sp.stood.way_is in
    let was : HasTree es parent (plug gs (Node x u m v)) = rw sp.stood.part dir.stands in
    let out : occurs m r ≡ 0 = omega (arith, cut.taken.gone, occurs-plug m gs r) in
    let there : m ≢ no_stream = λ e. absurd (omega (arith, sp.stood.shape.1, few, e)) in
    let e1 : List Entry = relinked es parent o up in
    let moved : n ≢ m → name_at mid n ≡ name_at es m = λ nm.
    let lt : n < length e1 = omega (arith, (but-relinked es parent o up).same_length, in-storage es parent n t dir.stands nin) in
    ap (λ (l : List Entry). name_at l n) emid
    ∙ (vacated-name e1 n m lt nm
    ∙ (ap (λ (y : Option PathStep). name_at (relinked es parent y up) m) ab
    ∙ (kept-relinked es parent gs (Node x u m v) up t dir.stands.0 (λ k. ap (occurs k) (sym sp.stood.part)) (λ k i. in-storage es parent k t dir.stands i)).1 m)) in
    let renamed : n ≢ m → name_at mid n ≢ name_at es n = λ nm q. elim sp.next [
      | inl e ↦ nm (sym e)
      | inr w ↦ let parts : tree_numbers t ≡ (before gs ++ tree_numbers u) ++ m ∷ (tree_numbers v ++ behind gs) = ap tree_numbers (sym sp.stood.part) ∙ (numbers-plug gs (Node x u m v) ∙ simp append_assoc) in
          let tail : tree_numbers v ++ behind gs ≡ n ∷ w.1.0 = rw (w.0, w.1.1) refl in
          let mid-parts = middle cases es (before gs ++ tree_numbers u) m (tree_numbers v ++ behind gs) (subst (RisesByName cases es) parts dir.increasing) in
          let less : name_cmp cases (name_at es m) (name_at es n) ≡ Less = (subst (AllAbove cases es (name_at es m)) tail mid-parts.above).0 in
          not-below-itself cases (name_at es m) (name_at es n) (sym (moved nm) ∙ q) less
    ] in
    let freed-part : (k : ℕ) → k ≡ m → StaysChanged es mid parent gs (top r) k = λ k e. subst (λ (k' : ℕ). StaysChanged es mid parent gs (top r) k') (sym e) (inr (inl (
      freed-apart cases es mid parent n t m (plug gs r) dir cut.taken,
      omega (arith, cut.taken.gone, occurs-plug m gs r),
      inl (λ q. top-apart r m out there (sym q), λ q. used (sym q ∙ cut.taken.cleared)),
    ))) in (
      gs,
      r,
      cut.spot,
      record {
        told = told.told;
        stays = λ k g. elim (told.only k g) [
          | inl z ↦ absurd (omega (arith, z))
          | inr w ↦ elim w [
            | inl e ↦ inr (inr (e ∙ ap (slot_of_link parent) ab, λ q. top-apart r m out there (sym (place-link mid parent gs r cut.spot.stands) ∙ (q ∙ place-link es parent gs (Node x u m v) was))))
            | inr y ↦ elim (cases_eq k m) [
              | inl e ↦ freed-part k e
              | inr km ↦ elim y [
                | inl e ↦ inl (subst (λ (k' : ℕ). name_at mid k' ≢ name_at es k') (sym e) (renamed (λ q. km (e ∙ q))))
                | inr e ↦ absurd (km e)
              ]
            ]
          ]
        ];
      },
    )
