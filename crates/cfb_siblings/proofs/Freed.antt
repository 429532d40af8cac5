-- Which slot a removal frees.
use Rattle.std.proofs.Common.{◌≡◌, ◌≢◌, ◌<◌, ◌≤◌, inl, inr, ℕ, List, [], ◌∷◌, ◌++◌, true, false, length, append_assoc, refl, ap, sym, ◌∙◌, subst, arith}
use Rattle.std.specs.Prelude.{Contains}
use Rattle.std.proofs.lemmas.Bool.{cases_lt}
use Rattle.cfb_format.specs.Bytes.{no_stream}
use Rattle.cfb_format.specs.Names.{Cases}
use Rattle.cfb_format.specs.Tree.{is_same_name}
use Rattle.cfb_format.specs.DirectoryEntry.{Entry}
use Rattle.cfb_format.specs.Siblings.{entry_at}
use Rattle.cfb_siblings.specs.declared.links.PathStep.{PathStep}
use Rattle.cfb_siblings.specs.Painted.{Painted, Leaf, Node, Shape, tree_numbers, hit, occurs, size, times_in}
use Rattle.cfb_siblings.specs.Way.{Frame, InLeft, InRight, before, behind, name_at, plug, way}
use Rattle.cfb_siblings.specs.Order.{Dir, read_tree}
use Rattle.cfb_siblings.specs.Taking.{StandsInTree}
use Rattle.cfb_siblings.specs.Children.{HasChildren, IsChildNamed, IsSomeChild, IsThin}
use Rattle.cfb_siblings.proofs.Alone.{one-named}
use Rattle.cfb_siblings.proofs.Joined.{same-list}
use Rattle.cfb_siblings.proofs.Ordered.{once-increasing, tally-numbers}
use Rattle.cfb_siblings.proofs.PaintedTrees.{dir-of}
use Rattle.cfb_siblings.proofs.Spares.{Sinking, leaf-or, left-bound, sink-bound, sink-more, sink-smaller, sink-start, stood-bound}
use Rattle.cfb_siblings.proofs.Tallies.{counted, hit-cases, hit-same, present, tally-append}
use Rattle.cfb_siblings.proofs.Zip.{numbers-plug, occurs-plug}

-- ---- a child stands in the tree

stands-at : (es : List Entry) (n : ℕ) (t : Painted) (link : ℕ) (fs : List Frame) → Shape es link t → 1 ≤ occurs n t → (steps : List PathStep) × StandsInTree es steps (plug fs t) n
stands-at es n Leaf link fs s m = absurd (omega (arith, m))
stands-at es n (Node c a k b) link fs s m = elim (cases_lt 0 (occurs n a)) [
  | inl l ↦ stands-at es n a (entry_at es k).left_sibling (InLeft c k b ∷ fs) s.3 (omega (arith, l))
  | inr z ↦ elim (cases_lt 0 (occurs n b)) [
    | inl l ↦ stands-at es n b (entry_at es k).right_sibling (InRight c k a ∷ fs) s.4 (omega (arith, l))
    | inr y ↦ elim (hit-cases n k) [
      | inl e ↦ subst (λ (j : ℕ). (steps : List PathStep) × StandsInTree es steps (plug fs (Node c a k b)) j) (sym e) (way fs, (fs, c, a, b, record { part = refl; way_is = refl; shape = (refl, s.1, s.2, s.3, s.4) }))
      | inr w ↦ absurd (omega (arith, m, z, y, w))
    ]
  ]
]

-- ways to it, from the tops of trees that have each number once
abbrev pub Stands : List Entry → ℕ → Type 0
Stands es n = (t : Painted) × (steps : List PathStep) × StandsInTree es steps t n × ((k : ℕ) → occurs k t ≤ 1)

pub child-stands : (es : List Entry) (n : ℕ) → IsSomeChild es n → Stands es n
child-stands es n (cases, parent, list, h, m) =
    let (t, dir, e) = dir-of cases es parent list h in
    let (steps, st) = stands-at es n t (entry_at es parent).child [] dir.stands.1 (omega (arith, counted n list m, ap (times_in n) e, tally-numbers n t)) in
    (t, steps, st, once-increasing cases es t dir.increasing)

-- ---- one child has the name

stood-in : (es : List Entry) (steps : List PathStep) (t : Painted) (n : ℕ) → StandsInTree es steps t n → 1 ≤ occurs n t
stood-in es steps t n (fs, c, a, b, s) = omega (arith, hit-same n, ap (occurs n) s.part, occurs-plug n fs (Node c a n b))

-- a child of that name that has at most one part below it is the one whose slot is freed
pub thin-taken : (cases : Cases) (es : List Entry) (parent : ℕ) (name : List ℕ) (steps : List PathStep) (t : Painted) (n m : ℕ) → Dir cases es parent t → StandsInTree es steps t n
    → is_same_name cases name (name_at es n) ≡ true → (IsThin es n → m ≡ n) → (k : ℕ) → 1 ≤ occurs k t → is_same_name cases name (name_at es k) ≡ true → IsThin es k → m ≡ k
thin-taken cases es parent name steps t n m dir st same own k there alike thin =
    let k-in : Contains (tree_numbers t) k = present k (tree_numbers t) (omega (arith, there, tally-numbers k t)) in
    let n-in : Contains (tree_numbers t) n = present n (tree_numbers t) (omega (arith, stood-in es steps t n st, tally-numbers n t)) in
    let one : k ≡ n = one-named cases es name (tree_numbers t) k n dir.increasing k-in n-in alike same in
    own (subst (λ (j : ℕ). IsThin es j) one thin) ∙ sym one

pub thin-child : (cases : Cases) (es : List Entry) (parent : ℕ) (name : List ℕ) (freed : ℕ)
    → ((t : Painted) → Dir cases es parent t → (n : ℕ) → 1 ≤ occurs n t → is_same_name cases name (name_at es n) ≡ true → IsThin es n → freed ≡ n)
    → (list : List ℕ) → HasChildren cases es parent list → (n : ℕ) → IsChildNamed cases es name list n → IsThin es n → freed ≡ n
thin-child cases es parent name freed f list h n (m, same) thin =
    let (t, dir, e) = dir-of cases es parent list h in
    f t dir n (omega (arith, counted n list m, ap (times_in n) e, tally-numbers n t)) same thin

-- ---- the child right before it

-- n stands in a list once, so what is before it is known
split-once : (n : ℕ) (xs ys us vs : List ℕ) → xs ++ n ∷ ys ≡ us ++ n ∷ vs → times_in n (xs ++ n ∷ ys) ≤ 1 → xs ≡ us
unfolding times_in
split-once n [] ys [] vs e once = refl
split-once n [] ys (u ∷ us) vs e once =
    let h : n ≡ u = cc in
    absurd (omega (arith, once, ap (times_in n) e, hit-same n, ap (hit n) h, tally-append n us (n ∷ vs)))
split-once n (x ∷ xs) ys [] vs e once =
    let h : n ≡ x = cc in
    absurd (omega (arith, once, hit-same n, ap (hit n) h, tally-append n xs (n ∷ ys)))
split-once n (x ∷ xs) ys (u ∷ us) vs e once =
    let h : x ≡ u = cc in
    let rest : xs ++ n ∷ ys ≡ us ++ n ∷ vs = cc in
    let front : xs ≡ us = split-once n xs ys us vs rest (omega (arith, once)) in
    cc

times-head : (k : ℕ) (ks : List ℕ) → 1 ≤ times_in k (k ∷ ks)
unfolding times_in
times-head k ks = omega (arith, hit-same k)

-- what hangs below the left part of n, on its right side
abbrev pub Sunk : List Entry → ℕ → ℕ → Type 0
Sunk es n m = (t : Painted) (steps : List PathStep) → StandsInTree es steps t n → (more : List PathStep) × Sinking es more t n m

module _ (es : List Entry) (few : length es ≤ 4294967295) where
  pub child-bound : (n : ℕ) → IsSomeChild es n → n < length es
  child-bound n child = let (t, steps, st, once) = child-stands es n child in stood-bound es steps few t n st

  pub sunk-left : (n : ℕ) → IsSomeChild es n → (entry_at es n).left_sibling ≢ no_stream → (entry_at es n).left_sibling < length es
  sunk-left n child ne = let (t, steps, st, once) = child-stands es n child in left-bound es steps few t n ne st

  pub sunk-start : (n : ℕ) → (entry_at es n).left_sibling ≢ no_stream → Sunk es n (entry_at es n).left_sibling
  sunk-start n ne t steps st = (steps ++ record { number = n; left = true } ∷ [], sink-start es steps few t n ne st)

  pub sunk-more : (n m : ℕ) → (entry_at es m).right_sibling ≢ no_stream → Sunk es n m → Sunk es n (entry_at es m).right_sibling
  sunk-more n m ne sunk t steps st =
      let (more, s) = sunk t steps st in
      (more ++ record { number = m; left = false } ∷ [], sink-more es more few t n m ne s)

  pub sunk-bound : (n m : ℕ) → IsSomeChild es n → (entry_at es m).right_sibling ≢ no_stream → Sunk es n m → (entry_at es m).right_sibling < length es
  sunk-bound n m child ne sunk =
      let (t, steps, st, once) = child-stands es n child in
      let (more, s) = sunk t steps st in
      sink-bound es more few t n m ne s

  pub sunk-smaller : (n m : ℕ) → IsSomeChild es n → (entry_at es m).right_sibling ≢ no_stream → Sunk es n m
      → size (read_tree (length es) es (entry_at es (entry_at es m).right_sibling).right_sibling) < size (read_tree (length es) es (entry_at es m).right_sibling)
  sunk-smaller n m child ne sunk =
      let (t, steps, st, once) = child-stands es n child in
      let (more, s) = sunk t steps st in
      sink-smaller es more few t n m ne once s

  pub sunk-before : (n m : ℕ) → (entry_at es m).right_sibling ≡ no_stream → Sunk es n m → (cases : Cases) (parent : ℕ) (xs ys : List ℕ)
      → HasChildren cases es parent (xs ++ n ∷ ys) → (zs : List ℕ) × (xs ≡ zs ++ m ∷ [])
  sunk-before n m e sunk cases parent xs ys h =
      let (t, dir, listed) = dir-of cases es parent (xs ++ n ∷ ys) h in
      let once : times_in n (xs ++ n ∷ ys) ≤ 1 = omega (arith, once-increasing cases es t dir.increasing n, ap (times_in n) listed, tally-numbers n t) in
      let there : 1 ≤ occurs n t = omega (arith, ap (times_in n) listed, tally-numbers n t, tally-append n xs (n ∷ ys), times-head n ys) in
      let (steps, st) = stands-at es n t (entry_at es parent).child [] dir.stands.1 there in
      let (more, (gs, d, a, b, rest, s, next)) = sunk t steps st in
      let thin : b ≡ Leaf = leaf-or b (entry_at es m).right_sibling es few s.shape.4 e in
      let zs : List ℕ = before gs ++ tree_numbers a in
      let tail : tree_numbers b ++ behind gs ≡ n ∷ rest = rw (thin, next) refl in
      let parts : tree_numbers t ≡ (zs ++ m ∷ []) ++ n ∷ rest =
      sym (ap tree_numbers s.part)
      ∙ (numbers-plug gs (Node d a m b)
      ∙ (ap (λ (l : List ℕ). before gs ++ l) (append_assoc (tree_numbers a) (m ∷ tree_numbers b) (behind gs))
      ∙ (ap (λ (l : List ℕ). before gs ++ (tree_numbers a ++ m ∷ l)) tail
      ∙ simp append_assoc))) in
      (zs, split-once n xs ys (zs ++ m ∷ []) rest (sym listed ∙ parts) once)
