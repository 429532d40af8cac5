-- What is in a storage: where a walk over it stands, and that there is one answer alone.
use Rattle.std.proofs.Common.{◌≡◌, ◌≢◌, ℕ, zero, suc, ◌+◌, ◌<◌, ◌≤◌, List, [], ◌∷◌, ◌++◌, refl, sym, ◌∙◌, ap, subst, length, arith, reverse, append_assoc, append-nil, inl, inr}
use Rattle.std.specs.Prelude.{Contains, ◌⊎◌}
use Rattle.std.proofs.lemmas.List.{length-append, reverse-reverse}
use Rattle.std.proofs.lemmas.List.Elements.{Contains-append_cases}
use Rattle.std.proofs.lemmas.Bool.{cases_lt}
use Rattle.cfb_format.specs.declared.objtype.ObjType.{ObjType}
use Rattle.cfb_format.specs.declared.objtype.ObjType.TheVariants.{Unallocated, Storage, Stream, Root}
use Rattle.cfb_format.specs.Bytes.{no_stream}
use Rattle.cfb_format.specs.Names.{Cases}
use Rattle.cfb_format.specs.DirectoryEntry.{Entry}
use Rattle.cfb_format.specs.Siblings.{entry_at, SiblingTree, leaf, node, HangsAt, in_order, Below}
use Rattle.cfb_format.specs.Reading.{Outline, no_more, storage_at, stream_at, siblings, numbers, HasContents}
use Rattle.cfb_format.proofs.Unique.{HangsAt-unique}
use Rattle.cfb_outline.specs.Outlines.{HasInside, IsReachedStorage}
use Rattle.cfb_outline.proofs.Counts.{hit, tally, hit-same, hit-other, tally-append, tally-reverse, tally-length, distinct-tally}
use Rattle.cfb_outline.proofs.Walking.{Rest, descending, in_order-descending, leave, popped, finished, tally-stack}

-- ---- numbers in range

absent-inside : (k i : ℕ) → i < k → hit k i ≡ 0
absent-inside k i l = hit-other k i (λ e. omega (arith, e, l))

hangs-past : (es : List Entry) (top : ℕ) (t : SiblingTree) → HangsAt es top t → (k : ℕ) → length es ≤ k → tally k (in_order t) ≡ 0
hangs-past es top leaf h k g = refl
hangs-past es top (node l i r) (e, ne, lt, hl, hr) k g =
    let z = absent-inside k i (omega (arith, lt, g)) in
    omega (arith, z, tally-append k (in_order l) (i ∷ in_order r), hangs-past es (entry_at es i).left_sibling l hl k g, hangs-past es (entry_at es i).right_sibling r hr k g)

pub below-past : (cases : Cases) (es : List Entry) (top : ℕ) (list : List ℕ) → Below cases es top list → (k : ℕ) → length es ≤ k → tally k list ≡ 0
below-past cases es top list b k g = ap (tally k) b.is_in_order ∙ hangs-past es top b.tree b.hangs k g

pub below-same : (cases others : Cases) (es : List Entry) (top : ℕ) (xs ys : List ℕ) → Below cases es top xs → Below others es top ys → xs ≡ ys
below-same cases others es top xs ys a b = a.is_in_order ∙ ap in_order (HangsAt-unique es top a.tree b.tree a.hangs b.hangs) ∙ sym b.is_in_order

-- ---- a walk over siblings

pub record Listed (es : List Entry) (top c : ℕ) (stack done : List ℕ) : Type 0 where
  pub cases : Cases
  pub list : List ℕ
  pub below : Below cases es top list
  pub todo : List ℕ
  pub rest : Rest es c stack todo
  pub all : reverse list ≡ done ++ todo

pub listed-start : (cases : Cases) (es : List Entry) (top : ℕ) (list : List ℕ) → Below cases es top list → Listed es top top [] []
listed-start cases es top list b = record {
  cases = cases;
  list = list;
  below = b;
  todo = descending b.tree;
  rest = (b.tree, b.hangs, refl);
  all = ap reverse (b.is_in_order ∙ sym (in_order-descending b.tree)) ∙ reverse-reverse (descending b.tree);
}

pub listed-enter : (es : List Entry) (top c : ℕ) (stack done : List ℕ) → Listed es top c stack done → c ≢ no_stream → Listed es top (entry_at es c).right_sibling (c ∷ stack) done
listed-enter es top c stack done w ne = record {
  cases = w.cases;
  list = w.list;
  below = w.below;
  todo = w.todo;
  rest = (leave es c stack w.todo ne w.rest).1;
  all = w.all;
}

pub listed-emit : (es : List Entry) (top c s : ℕ) (stack done : List ℕ) → Listed es top c (s ∷ stack) done → c ≡ no_stream → Listed es top (entry_at es s).left_sibling stack (done ++ s ∷ [])
listed-emit es top c s stack done w e =
    let q = popped es c s stack w.todo e w.rest in
    record {
      cases = w.cases;
      list = w.list;
      below = w.below;
      todo = q.0;
      rest = q.1;
      all = w.all ∙ ap (λ xs. done ++ xs) q.2 ∙ sym (append_assoc done (s ∷ []) q.0);
    }

pub listed-end : (cases : Cases) (es : List Entry) (top c : ℕ) (done list : List ℕ) → Listed es top c [] done → c ≡ no_stream → Below cases es top list → done ≡ reverse list
listed-end cases es top c done list w e b =
    sym (append-nil done) ∙ ap (λ xs. done ++ xs) (sym (finished es c w.todo e w.rest)) ∙ sym w.all
    ∙ ap reverse (below-same w.cases cases es top w.list list w.below b)

-- each number to come stands once, in range
once : (es : List Entry) (top c : ℕ) (stack done : List ℕ) (w : Listed es top c stack done) (k : ℕ) → tally k done + tally k stack ≤ tally k w.list
once es top c stack done w k =
    let e : tally k (reverse w.list) ≡ tally k (done ++ w.todo) = ap (tally k) w.all in
    omega (arith, e, tally-reverse k w.list, tally-append k done w.todo, tally-stack es c stack w.todo k w.rest)

pub listed-room : (es : List Entry) (top c : ℕ) (stack done : List ℕ) → Listed es top c stack done → length done + length stack ≤ length es
listed-room es top c stack done w =
    let most = tally-length (done ++ stack) (length es)
    (λ k. omega (arith, tally-append k done stack, once es top c stack done w k, distinct-tally w.list w.below.distinct k))
    (λ k g. omega (arith, tally-append k done stack, once es top c stack done w k, below-past w.cases es top w.list w.below k g)) in
    omega (arith, most, length-append done stack)

pub listed-here : (es : List Entry) (top c : ℕ) (stack done : List ℕ) → Listed es top c stack done → c ≢ no_stream → c < length es
listed-here es top c stack done w ne = (leave es c stack w.todo ne w.rest).0

pub listed-inside : (es : List Entry) (top c s : ℕ) (stack done : List ℕ) → Listed es top c (s ∷ stack) done → s < length es
listed-inside es top c s stack done w = elim (cases_lt s (length es)) [
  | inl l ↦ l
  | inr g ↦ absurd (omega (arith, once es top c (s ∷ stack) done w s, hit-same s, below-past w.cases es top w.list w.below s g))
]

-- ---- what is in a storage

-- an entry of a kind stands in range
pub present : (es : List Entry) (k : ℕ) (t : ObjType) → (Unallocated ≡ t → ⊥) → (entry_at es k).obj_type ≡ t → k < length es
present [] k t none e = absurd (none e)
present (x ∷ es) zero t none e = omega arith
present (x ∷ es) (suc k) t none e = let l = present es k t none e in omega (arith, l)

pub no-storage : Unallocated ≡ Storage → ⊥
no-storage e = cc

pub no-stream : Unallocated ≡ Stream → ⊥
no-stream e = cc

no-root : Unallocated ≡ Root → ⊥
no-root e = cc

pub contents-past : (cases : Cases) (es : List Entry) (o : Outline) → HasContents cases es o → (k : ℕ) → length es ≤ k → tally k (numbers o) ≡ 0
contents-past cases es no_more c k g = refl
contents-past cases es (storage_at i inside rest) (t, l, c, r) k g =
    let z = absent-inside k i (let p = present es i Storage no-storage t in omega (arith, p, g)) in
    omega (arith, z, tally-append k (numbers inside) (numbers rest), contents-past cases es inside c k g, contents-past cases es rest r k g)
contents-past cases es (stream_at i rest) (t, r) k g =
    let z = absent-inside k i (let p = present es i Stream no-stream t in omega (arith, p, g)) in
    omega (arith, z, contents-past cases es rest r k g)

-- what is in a storage, each number once
pub record Inside (cases : Cases) (es : List Entry) (k : ℕ) : Type 0 where
  pub outline : Outline
  pub has : HasInside cases es k outline
  pub once : (n : ℕ) → tally n (numbers outline) ≤ 1
  pub inside : k < length es

pub first-or-later : (i : ℕ) (xs : List ℕ) (x : ℕ) → Contains (i ∷ xs) x → (x ≡ i) ⊎ Contains xs x
first-or-later i xs x (zero, l, e) = inl (sym e)
first-or-later i xs x (suc k, l, e) = inr (k, omega (arith, l), e)

storage-inside : (cases : Cases) (es : List Entry) (o : Outline) (k : ℕ) → HasContents cases es o → Contains (numbers o) k → (entry_at es k).obj_type ≢ Stream
    → ((n : ℕ) → tally n (numbers o) ≤ 1) → Inside cases es k
storage-inside cases es no_more k c has kind once = absurd (omega (arith, has.1))
storage-inside cases es (storage_at i inside rest) k (t, l, c, r) has kind once = elim (first-or-later i (numbers inside ++ numbers rest) k has) [
  | inl e ↦ record {
    outline = inside;
    has = record { children = subst (λ n. Below cases es (entry_at es n).child (siblings inside)) (sym e) l; contents = c };
    once = λ n. let a = once n in omega (arith, a, tally-append n (numbers inside) (numbers rest));
    inside = subst (λ n. n < length es) (sym e) (present es i Storage no-storage t);
  }
  | inr later ↦ elim (Contains-append_cases (numbers inside) (numbers rest) k later) [
    | inl a ↦ storage-inside cases es inside k c a kind (λ n. let b = once n in omega (arith, b, tally-append n (numbers inside) (numbers rest)))
    | inr a ↦ storage-inside cases es rest k r a kind (λ n. let b = once n in omega (arith, b, tally-append n (numbers inside) (numbers rest)))
  ]
]
storage-inside cases es (stream_at i rest) k (t, r) has kind once = elim (first-or-later i (numbers rest) k has) [
  | inl e ↦ absurd (kind (subst (λ n. (entry_at es n).obj_type ≡ Stream) (sym e) t))
  | inr later ↦ storage-inside cases es rest k r later kind (λ n. let b = once n in omega (arith, b))
]

pub storage-is-inside : (cases : Cases) (es : List Entry) (k : ℕ) → IsReachedStorage cases es k → Inside cases es k
storage-is-inside cases es k p = elim (first-or-later 0 (numbers p.outline) k p.reached) [
  | inl e ↦ record {
    outline = p.outline;
    has = record {
      children = subst (λ n. Below cases es (entry_at es n).child (siblings p.outline)) (sym e) p.is.children;
      contents = p.is.contents;
    };
    once = λ n. let a = distinct-tally (0 ∷ numbers p.outline) p.is.distinct n in omega (arith, a);
    inside = subst (λ n. n < length es) (sym e) (present es 0 Root no-root p.is.root);
  }
  | inr later ↦ storage-inside cases es p.outline k p.is.contents later p.kind
      (λ n. let a = distinct-tally (0 ∷ numbers p.outline) p.is.distinct n in omega (arith, a))
]
