-- Walking over a sibling tree from the right to the left, with a stack of the nodes whose right part is walked.
use Rattle.std.proofs.Common.{◌≡◌, ◌≢◌, ℕ, ◌+◌, ◌<◌, ◌≤◌, List, [], ◌∷◌, ◌++◌, Bool, true, false, refl, sym, ◌∙◌, ap, subst, length, arith, get_or, set, reverse, append_assoc, append-nil, inl, inr}
use Rattle.std.specs.Prelude.{Option, Some, None}
use Rattle.std.specs.List.{AllByRecursion}
use Rattle.std.specs.declared.cmp.Ordering.{Ordering}
use Rattle.std.specs.declared.cmp.Ordering.TheVariants.{Less, Equal, Greater}
use Rattle.std.specs.Ordering.{is_lt}
use Rattle.std.proofs.lemmas.List.{length-map, length-append, reverse-append, length-set}
use Rattle.std.proofs.lemmas.Bool.{cases_lt}
use Rattle.cfb_format.specs.Bytes.{no_stream}
use Rattle.cfb_format.specs.Names.{Cases, name_cmp}
use Rattle.cfb_format.specs.DirectoryEntry.{Entry}
use Rattle.cfb_format.specs.Siblings.{entry_at, SiblingTree, leaf, node, HangsAt, in_order, RisesByName}
use Rattle.cfb_format.proofs.NameOrder.{name_cmp-total}
use Rattle.cfb_codecs.specs.declared.direntry.DirEntry.{DirEntry}
use Rattle.cfb_codecs.specs.EntryModel.{entry_of}
use Rattle.cfb_codecs.specs.EntryModel.{entries_of}
use Rattle.cfb_outline.specs.Families.{is_object_kind, AreObjects, Family, is_before_last, IsInside}
use Rattle.cfb_outline.proofs.Counts.{tally, mark_count, hit-same, tally-append, tally-reverse, tally-distinct, tally-length, marked-le, marked-past, marked-set, marked-yes, none-marked, marked-once}

pub push-reverse : (xs : List ℕ) (x : ℕ) → reverse (xs ++ x ∷ []) ≡ x ∷ reverse xs
push-reverse xs x = reverse-append xs (x ∷ [])

-- from the greatest name to the least
abbrev pub descending : SiblingTree → List ℕ
descending leaf = []
descending (node l i r) = descending r ++ i ∷ descending l

pub in_order-descending : (t : SiblingTree) → reverse (descending t) ≡ in_order t
in_order-descending leaf = refl
in_order-descending (node l i r) =
    reverse-append (descending r) (i ∷ descending l)
    ∙ ap (λ xs. xs ++ reverse (descending r)) (reverse-append (i ∷ []) (descending l))
    ∙ append_assoc (reverse (descending l)) (i ∷ []) (reverse (descending r))
    ∙ (λ j. in_order-descending l j ++ i ∷ in_order-descending r j)

-- xs is what is still to come, with the part at c first, and the stack's nodes with their left parts after it
abbrev pub Rest : List Entry → ℕ → List ℕ → List ℕ → Type 0
Rest es c [] xs = (t : SiblingTree) × HangsAt es c t × (xs ≡ descending t)
Rest es c (s ∷ stack) xs = (t : SiblingTree) × HangsAt es c t × (ys : List ℕ) × Rest es (entry_at es s).left_sibling stack ys × (xs ≡ descending t ++ s ∷ ys)

pub enter : (es : List Entry) (c : ℕ) (stack xs : List ℕ) → c ≢ no_stream → c < length es
    → Rest es (entry_at es c).right_sibling (c ∷ stack) xs → Rest es c stack xs
enter es c [] xs ne lt (t, ht, ys, (tl, hl, e'), e) =
    (node tl c t, (refl, ne, lt, hl, ht), e ∙ ap (λ ys. descending t ++ c ∷ ys) e')
enter es c (s ∷ stack) xs ne lt (t, ht, ys, (tl, hl, zs, rest, e'), e) =
    (node tl c t, (refl, ne, lt, hl, ht), zs, rest, e ∙ ap (λ ys. descending t ++ c ∷ ys) e' ∙ sym (append_assoc (descending t) (c ∷ descending tl) (s ∷ zs)))

-- a tree at a number that is one
opened : (es : List Entry) (c : ℕ) (t : SiblingTree) → c ≢ no_stream → HangsAt es c t
    → (l r : SiblingTree) × (c < length es) × HangsAt es (entry_at es c).left_sibling l × HangsAt es (entry_at es c).right_sibling r × (descending t ≡ descending r ++ c ∷ descending l)
opened es c leaf ne h = absurd (ne h)
opened es c (node l i r) ne (e, _, lt, hl, hr) = (
  l,
  r,
  subst (λ k. k < length es) (sym e) lt,
  subst (λ k. HangsAt es (entry_at es k).left_sibling l) (sym e) hl,
  subst (λ k. HangsAt es (entry_at es k).right_sibling r) (sym e) hr,
  ap (λ k. descending r ++ k ∷ descending l) (sym e),
)

closed : (es : List Entry) (c : ℕ) (t : SiblingTree) → c ≡ no_stream → HangsAt es c t → descending t ≡ []
closed es c leaf e h = refl
closed es c (node l i r) e h = absurd (h.1 e)

pub leave : (es : List Entry) (c : ℕ) (stack xs : List ℕ) → c ≢ no_stream → Rest es c stack xs
    → (c < length es) × Rest es (entry_at es c).right_sibling (c ∷ stack) xs
leave es c [] xs ne (t, h, e) =
    let (l, r, lt, hl, hr, d) = opened es c t ne h in
    (lt, (r, hr, descending l, (l, hl, refl), e ∙ d))
leave es c (s ∷ stack) xs ne (t, h, ys, rest, e) =
    let (l, r, lt, hl, hr, d) = opened es c t ne h in
    (lt, (r, hr, descending l ++ s ∷ ys, (l, hl, ys, rest, refl), e ∙ ap (λ zs. zs ++ s ∷ ys) d ∙ append_assoc (descending r) (c ∷ descending l) (s ∷ ys)))

pub unpop : (es : List Entry) (c s : ℕ) (stack ys : List ℕ) → c ≡ no_stream → Rest es (entry_at es s).left_sibling stack ys → Rest es c (s ∷ stack) (s ∷ ys)
unpop es c s stack ys e r = (leaf, e, ys, r, refl)

pub popped : (es : List Entry) (c s : ℕ) (stack xs : List ℕ) → c ≡ no_stream → Rest es c (s ∷ stack) xs
    → (ys : List ℕ) × Rest es (entry_at es s).left_sibling stack ys × (xs ≡ s ∷ ys)
popped es c s stack xs e (t, h, ys, r, d) = (ys, r, d ∙ ap (λ zs. zs ++ s ∷ ys) (closed es c t e h))

pub finished : (es : List Entry) (c : ℕ) (xs : List ℕ) → c ≡ no_stream → Rest es c [] xs → xs ≡ []
finished es c xs e (t, h, d) = d ∙ closed es c t e h

-- the stack is still to come
pub tally-stack : (es : List Entry) (c : ℕ) (stack xs : List ℕ) (k : ℕ) → Rest es c stack xs → tally k stack ≤ tally k xs
tally-stack es c [] xs k r = omega arith
tally-stack es c (s ∷ stack) xs k (t, h, ys, r, d) =
    let e : tally k xs ≡ tally k (descending t ++ s ∷ ys) = ap (tally k) d in
    omega (arith, e, tally-append k (descending t) (s ∷ ys), tally-stack es (entry_at es s).left_sibling stack ys k r)

-- ---- names rise

pub rises-end : (cases : Cases) (es : List Entry) (xs ys : List ℕ) → RisesByName cases es (xs ++ ys) → RisesByName cases es ys
rises-end cases es [] ys r = r
rises-end cases es (x ∷ xs) ys r = rises-end cases es xs ys r.1

-- s is before the first of them, and so before all of them
pub below-all : (cases : Cases) (es : List Entry) (s p : ℕ) (ys : List ℕ) → name_cmp cases (entry_at es s).name (entry_at es p).name ≡ Less
    → AllByRecursion (λ k. name_cmp cases (entry_at es p).name (entry_at es k).name ≡ Less) ys
    → AllByRecursion (λ k. name_cmp cases (entry_at es s).name (entry_at es k).name ≡ Less) ys
below-all cases es s p [] l a = tt
below-all cases es s p (y ∷ ys) l a =
    ((name_cmp-total cases).trans (entry_at es s).name (entry_at es p).name (entry_at es y).name l a.0, below-all cases es s p ys l a.1)

-- ---- the walk

-- p is the one found last
abbrev pub IsLast : List ℕ → Option ℕ → Type 0
IsLast done None = done ≡ []
IsLast done (Some p) = (ds : List ℕ) × (done ≡ ds ++ p ∷ [])

abbrev pub ComesBefore : Cases → List Entry → ℕ → Option ℕ → Type 0
ComesBefore cases es s None = Unit {0}
ComesBefore cases es s (Some p) = name_cmp cases (entry_at es s).name (entry_at es p).name ≡ Less

pub record Walk (cases : Cases) (es : List Entry) (top : ℕ) (before : List Bool) (c : ℕ) (stack done : List ℕ) (now : List Bool) : Type 0 where
  pub size : length now ≡ length es
  pub onward : (xs : List ℕ) → Rest es c stack xs → Rest es top [] (done ++ xs)
  pub back : (zs : List ℕ) → Rest es top [] zs → (xs : List ℕ) × Rest es c stack xs × (zs ≡ done ++ xs)
  pub rises : RisesByName cases es (reverse done)
  pub objects : AreObjects es done
  pub marks : (k : ℕ) → mark_count now k ≡ mark_count before k + (tally k done + tally k stack)

pub walk-start : (cases : Cases) (es : List Entry) (top : ℕ) (before : List Bool) → length before ≡ length es → Walk cases es top before top [] [] before
walk-start cases es top before e = record {
  size = e;
  onward = λ xs r. r;
  back = λ zs r. (zs, r, refl);
  rises = tt;
  objects = tt;
  marks = λ k. omega arith;
}

pub walk-enter : (cases : Cases) (es : List Entry) (top : ℕ) (before : List Bool) (c : ℕ) (stack done : List ℕ) (now : List Bool) → Walk cases es top before c stack done now
    → c ≢ no_stream → c < length es → get_or now c false ≡ false
    → Walk cases es top before (entry_at es c).right_sibling (c ∷ stack) done (set now c true)
walk-enter cases es top before c stack done now w ne lt free = record {
  size = length-set now c true ∙ w.size;
  onward = λ xs r. w.onward xs (enter es c stack xs ne lt r);
  back = λ zs r. let b = w.back zs r in (b.0, (leave es c stack b.0 ne b.1).1, b.2);
  rises = w.rises;
  objects = w.objects;
  marks = λ k. let l : c < length now = omega (arith, lt, w.size) in omega (arith, marked-set now c k l free, w.marks k);
}

objects-push : (es : List Entry) (xs : List ℕ) (s : ℕ) → AreObjects es xs → is_object_kind (entry_at es s).obj_type ≡ true → AreObjects es (xs ++ s ∷ [])
objects-push es [] s a o = (o, tt)
objects-push es (x ∷ xs) s a o = (a.0, objects-push es xs s a.1 o)

rises-push : (cases : Cases) (es : List Entry) (done : List ℕ) (s : ℕ) (last : Option ℕ) → IsLast done last → ComesBefore cases es s last
    → RisesByName cases es (reverse done) → RisesByName cases es (reverse (done ++ s ∷ []))
rises-push cases es done s None last before r = subst (RisesByName cases es) (sym (push-reverse done s)) (subst (λ d. RisesByName cases es (s ∷ reverse d)) (sym last) (tt, tt))
rises-push cases es done s (Some p) (ds, e) before r =
    let e' : reverse done ≡ p ∷ reverse ds = ap reverse e ∙ push-reverse ds p in
    let r' = subst (RisesByName cases es) e' r in
    subst (RisesByName cases es) (sym (push-reverse done s ∙ ap (λ d. s ∷ d) e')) ((before, below-all cases es s p (reverse ds) before r'.0), r')

pub walk-emit : (cases : Cases) (es : List Entry) (top : ℕ) (before : List Bool) (c s : ℕ) (stack done : List ℕ) (now : List Bool) (last : Option ℕ)
    → Walk cases es top before c (s ∷ stack) done now
    → c ≡ no_stream → is_object_kind (entry_at es s).obj_type ≡ true → IsLast done last → ComesBefore cases es s last
    → Walk cases es top before (entry_at es s).left_sibling stack (done ++ s ∷ []) now
walk-emit cases es top before c s stack done now last w e o l b = record {
  size = w.size;
  onward = λ xs r. subst (Rest es top []) (sym (append_assoc done (s ∷ []) xs)) (w.onward (s ∷ xs) (unpop es c s stack xs e r));
  back = λ zs r.
      let b = w.back zs r in let q = popped es c s stack b.0 e b.1 in
      (q.0, q.1, b.2 ∙ ap (λ xs. done ++ xs) q.2 ∙ sym (append_assoc done (s ∷ []) q.0));
  rises = rises-push cases es done s last l b w.rises;
  objects = objects-push es done s w.objects o;
  marks = λ k. omega (arith, w.marks k, tally-append k done (s ∷ []));
}

pub objects-append : (es : List Entry) (xs ys : List ℕ) → AreObjects es xs → AreObjects es ys → AreObjects es (xs ++ ys)
objects-append es [] ys a b = b
objects-append es (x ∷ xs) ys a b = (a.0, objects-append es xs ys a.1 b)

objects-reverse : (es : List Entry) (xs : List ℕ) → AreObjects es xs → AreObjects es (reverse xs)
objects-reverse es [] a = tt
objects-reverse es (x ∷ xs) a = subst (AreObjects es) (sym (reverse-append (x ∷ []) xs)) (objects-append es (reverse xs) (x ∷ []) (objects-reverse es xs a.1) (a.0, tt))

pub walk-end : (cases : Cases) (es : List Entry) (top : ℕ) (before : List Bool) (c : ℕ) (done : List ℕ) (now : List Bool) → Walk cases es top before c [] done now
    → c ≡ no_stream → Family cases es top before (reverse done)
walk-end cases es top before c done now w e =
    let (t, h, d) = w.onward [] (leaf, e, refl) in
    let ordered : reverse done ≡ in_order t = ap reverse (sym (append-nil done) ∙ d) ∙ in_order-descending t in
    let fresh : (k : ℕ) → tally k (reverse done) + mark_count before k ≤ 1 = λ k. omega (arith, tally-reverse k done, w.marks k, marked-le now k) in
    record {
      below = record {
        tree = t;
        hangs = h;
        is_in_order = ordered;
        distinct = tally-distinct (reverse done) (λ k. let f = fresh k in omega (arith, f));
        rises = w.rises;
      };
      objects = objects-reverse es done w.objects;
      fresh = none-marked before (reverse done) fresh;
    }

-- ---- where the walk stops early there is no family

-- what a family would have given
given : (cases : Cases) (es : List Entry) (top : ℕ) (before : List Bool) (c : ℕ) (stack done : List ℕ) (now : List Bool) (list : List ℕ)
    → Walk cases es top before c stack done now → Family cases es top before list
    → (xs : List ℕ) × Rest es c stack xs × (list ≡ reverse (done ++ xs))
given cases es top before c stack done now list w f =
    let b = w.back (descending f.below.tree) (f.below.tree, f.below.hangs, refl) in
    (b.0, b.1, f.below.is_in_order ∙ sym (in_order-descending f.below.tree) ∙ ap reverse b.2)

pub walk-out : (cases : Cases) (es : List Entry) (top : ℕ) (before : List Bool) (c : ℕ) (stack done : List ℕ) (now : List Bool) (list : List ℕ)
    → Walk cases es top before c stack done now → c ≢ no_stream → length es ≤ c → Family cases es top before list → ⊥
walk-out cases es top before c stack done now list w ne out f =
    let g = given cases es top before c stack done now list w f in
    let l = (leave es c stack g.0 ne g.1).0 in
    omega (arith, l, out)

pub walk-seen : (cases : Cases) (es : List Entry) (top : ℕ) (before : List Bool) (c : ℕ) (stack done : List ℕ) (now : List Bool) (list : List ℕ)
    → Walk cases es top before c stack done now → c ≢ no_stream → get_or now c false ≡ true → Family cases es top before list → ⊥
walk-seen cases es top before c stack done now list w ne seen f =
    let g = given cases es top before c stack done now list w f in
    let s = tally-stack es (entry_at es c).right_sibling (c ∷ stack) g.0 c (leave es c stack g.0 ne g.1).1 in
    let e : tally c list ≡ tally c (reverse (done ++ g.0)) = ap (tally c) g.2 in
    omega (arith, s, e, tally-reverse c (done ++ g.0), tally-append c done g.0, w.marks c, marked-yes now c seen, hit-same c, marked-once before list f.below.distinct f.fresh c)

objects-end : (es : List Entry) (xs ys : List ℕ) → AreObjects es (xs ++ ys) → AreObjects es ys
objects-end es [] ys a = a
objects-end es (x ∷ xs) ys a = objects-end es xs ys a.1

-- the list ends in s and what was found
ending : (done ys : List ℕ) (s : ℕ) → reverse (done ++ s ∷ ys) ≡ reverse ys ++ s ∷ reverse done
ending done ys s = reverse-append done (s ∷ ys) ∙ ap (λ xs. xs ++ reverse done) (reverse-append (s ∷ []) ys) ∙ append_assoc (reverse ys) (s ∷ []) (reverse done)

pub walk-other : (cases : Cases) (es : List Entry) (top : ℕ) (before : List Bool) (c s : ℕ) (stack done : List ℕ) (now : List Bool) (list : List ℕ)
    → Walk cases es top before c (s ∷ stack) done now → c ≡ no_stream → is_object_kind (entry_at es s).obj_type ≡ false → Family cases es top before list → ⊥
walk-other cases es top before c s stack done now list w e wrong f =
    let g = given cases es top before c (s ∷ stack) done now list w f in
    let q = popped es c s stack g.0 e g.1 in
    let l : list ≡ reverse q.0 ++ s ∷ reverse done = g.2 ∙ ap (λ xs. reverse (done ++ xs)) q.2 ∙ ending done q.0 s in
    let o = objects-end es (reverse q.0) (s ∷ reverse done) (subst (AreObjects es) l f.objects) in
    let bad : false ≡ true = sym wrong ∙ o.0 in cc

pub walk-unordered : (cases : Cases) (es : List Entry) (top : ℕ) (before : List Bool) (c s p : ℕ) (stack done : List ℕ) (now : List Bool) (list : List ℕ)
    → Walk cases es top before c (s ∷ stack) done now → c ≡ no_stream → IsLast done (Some p) → (name_cmp cases (entry_at es s).name (entry_at es p).name ≡ Less → ⊥)
    → Family cases es top before list → ⊥
walk-unordered cases es top before c s p stack done now list w e (ds, last) wrong f =
    let g = given cases es top before c (s ∷ stack) done now list w f in
    let q = popped es c s stack g.0 e g.1 in
    let l : list ≡ reverse q.0 ++ s ∷ p ∷ reverse ds =
    g.2 ∙ ap (λ xs. reverse (done ++ xs)) q.2 ∙ ending done q.0 s ∙ ap (λ xs. reverse q.0 ++ s ∷ xs) (ap reverse last ∙ push-reverse ds p) in
    wrong (rises-end cases es (reverse q.0) (s ∷ p ∷ reverse ds) (subst (RisesByName cases es) l f.below.rises)).0.0

-- ---- bounds

pub walk-inside : (cases : Cases) (es : List Entry) (top : ℕ) (before : List Bool) (c s : ℕ) (stack done : List ℕ) (now : List Bool)
    → Walk cases es top before c (s ∷ stack) done now → s < length es
walk-inside cases es top before c s stack done now w = elim (cases_lt s (length es)) [
  | inl l ↦ l
  | inr g ↦
      let z = marked-past now s (omega (arith, g, w.size)) in
      absurd (omega (arith, z, w.marks s, hit-same s))
]

pub walk-last : (cases : Cases) (es : List Entry) (top : ℕ) (before : List Bool) (c p : ℕ) (stack done : List ℕ) (now : List Bool)
    → Walk cases es top before c stack done now → IsLast done (Some p) → p < length es
walk-last cases es top before c p stack done now w (ds, e) = elim (cases_lt p (length es)) [
  | inl l ↦ l
  | inr g ↦
      let z = marked-past now p (omega (arith, g, w.size)) in
      let t : tally p done ≡ tally p (ds ++ p ∷ []) = ap (tally p) e in
      absurd (omega (arith, z, w.marks p, hit-same p, t, tally-append p ds (p ∷ [])))
]

pub walk-room : (cases : Cases) (es : List Entry) (top : ℕ) (before : List Bool) (c : ℕ) (stack done : List ℕ) (now : List Bool)
    → Walk cases es top before c stack done now → length done + length stack ≤ length es
walk-room cases es top before c stack done now w =
    let most = tally-length (done ++ stack) (length es)
    (λ k. omega (arith, tally-append k done stack, w.marks k, marked-le now k))
    (λ k g. let z = marked-past now k (omega (arith, g, w.size)) in omega (arith, z, tally-append k done stack, w.marks k)) in
    omega (arith, most, length-append done stack)

-- ---- as the code asks

pub walk-last-inside : (cases : Cases) (es : List Entry) (top : ℕ) (before : List Bool) (c : ℕ) (last : Option ℕ) (stack done : List ℕ) (now : List Bool)
    → Walk cases es top before c stack done now → IsLast done last → IsInside es last
walk-last-inside cases es top before c None stack done now w l = tt
walk-last-inside cases es top before c (Some p) stack done now w l = walk-last cases es top before c p stack done now w l

lt-less : (o : Ordering) → is_lt o ≡ true → o ≡ Less
lt-less Less e = refl
lt-less Equal e = cc
lt-less Greater e = cc

pub before-from : (cases : Cases) (es : List Entry) (s : ℕ) (last : Option ℕ) → is_before_last cases es s last ≡ true → ComesBefore cases es s last
before-from cases es s None e = tt
before-from cases es s (Some p) e = lt-less (name_cmp cases (entry_at es s).name (entry_at es p).name) e

pub walk-unpreceded : (cases : Cases) (es : List Entry) (top : ℕ) (before : List Bool) (c s : ℕ) (last : Option ℕ) (stack done : List ℕ) (now : List Bool) (list : List ℕ)
    → Walk cases es top before c (s ∷ stack) done now → c ≡ no_stream → IsLast done last → is_before_last cases es s last ≡ false
    → Family cases es top before list → ⊥
walk-unpreceded cases es top before c s None stack done now list w e l wrong f = cc
walk-unpreceded cases es top before c s (Some p) stack done now list w e l wrong f =
    walk-unordered cases es top before c s p stack done now list w e l (λ less. let bad : true ≡ false = sym (ap is_lt less) ∙ wrong in cc) f

pub inside-map : {A : Type 0} (es : List (DirEntry A)) (last : Option ℕ) → IsInside (entries_of es) last → IsInside es last
inside-map es None i = tt
inside-map es (Some p) i = omega (arith, i, length-map es entry_of)
