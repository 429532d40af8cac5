-- From the root to all entries: what is reached, and what is still waiting.
use Rattle.std.proofs.Common.{◌≡◌, ℕ, ◌+◌, ◌%◌, ◌<◌, ◌≤◌, List, [], ◌∷◌, ◌++◌, Bool, true, false, refl, sym, ◌∙◌, ap, subst, length, arith, set, append_assoc, append-nil, inl, inr, replicate}
use Rattle.std.specs.Prelude.{nat_eq, ◌==◌, ◌&&◌, ◌||◌}
use Rattle.std.specs.List.{list_any}
use Rattle.std.proofs.lemmas.List.{length-append, length-replicate, get_or-replicate}
use Rattle.std.proofs.lemmas.Bool.{cases_lt}
use Rattle.std.proofs.lemmas.Map.Views.{exact_unsigned_eq}
use Rattle.cfb_format.specs.declared.objtype.ObjType.{ObjType}
use Rattle.cfb_format.specs.declared.objtype.ObjType.TheVariants.{Unallocated, Storage, Stream, Root}
use Rattle.cfb_format.specs.Names.{Cases}
use Rattle.cfb_format.specs.DirectoryEntry.{Entry}
use Rattle.cfb_format.specs.Siblings.{entry_at, Below}
use Rattle.cfb_format.specs.Reading.{Outline, no_more, storage_at, stream_at, siblings, numbers, HasContents, IsOutline}
use Rattle.cfb_format.proofs.Unique.{Below-unique, storage_is_no_stream}
use Rattle.cfb_outline.specs.Families.{is_object_kind, is_marked, AreObjects, Family, is_storage_kind, is_root_kind, is_root_entry}
use Rattle.cfb_outline.proofs.Counts.{hit, tally, mark_count, hit-same, tally-append, distinct-tally, tally-distinct, tally-length, marked-le, marked-past, marked-set, marked-none, none-marked, marked-once, counts-from-marks}
use Rattle.cfb_outline.proofs.Walking.{objects-append}

-- ---- outlines, one after the other

pub joined : Outline → Outline → Outline
joined no_more p = p
joined (storage_at i inside rest) p = storage_at i inside (joined rest p)
joined (stream_at i rest) p = stream_at i (joined rest p)

pub siblings-joined : (o p : Outline) → siblings (joined o p) ≡ siblings o ++ siblings p
unfolding joined
siblings-joined no_more p = refl
siblings-joined (storage_at i inside rest) p = ap (λ xs. i ∷ xs) (siblings-joined rest p)
siblings-joined (stream_at i rest) p = ap (λ xs. i ∷ xs) (siblings-joined rest p)

pub numbers-joined : (o p : Outline) → numbers (joined o p) ≡ numbers o ++ numbers p
unfolding joined
numbers-joined no_more p = refl
numbers-joined (storage_at i inside rest) p =
    ap (λ xs. i ∷ numbers inside ++ xs) (numbers-joined rest p) ∙ sym (append_assoc (i ∷ numbers inside) (numbers rest) (numbers p))
numbers-joined (stream_at i rest) p = ap (λ xs. i ∷ xs) (numbers-joined rest p)

pub contents-joined : (cases : Cases) (es : List Entry) (o p : Outline) → HasContents cases es o → HasContents cases es p → HasContents cases es (joined o p)
unfolding joined
contents-joined cases es no_more p a b = b
contents-joined cases es (storage_at i inside rest) p (t, l, c, r) b = (t, l, c, contents-joined cases es rest p r b)
contents-joined cases es (stream_at i rest) p (t, r) b = (t, contents-joined cases es rest p r b)

record Parts (cases : Cases) (es : List Entry) (o : Outline) (xs ys : List ℕ) : Type 0 where
  pub first : Outline
  pub second : Outline
  pub first_siblings : siblings first ≡ xs
  pub second_siblings : siblings second ≡ ys
  pub all : numbers o ≡ numbers first ++ numbers second
  pub first_contents : HasContents cases es first
  pub second_contents : HasContents cases es second

parted : (cases : Cases) (es : List Entry) (o : Outline) (xs ys : List ℕ) → siblings o ≡ xs ++ ys → HasContents cases es o → Parts cases es o xs ys
parted cases es o [] ys e c = record {
  first = no_more;
  second = o;
  first_siblings = refl;
  second_siblings = e;
  all = refl;
  first_contents = tt;
  second_contents = c;
}
parted cases es no_more (x ∷ xs) ys e c = cc
parted cases es (storage_at i inside rest) (x ∷ xs) ys e (t, l, c, r) =
    let e0 : i ≡ x = cc in
    let e1 : siblings rest ≡ xs ++ ys = cc in
    let p = parted cases es rest xs ys e1 r in
    record {
      first = storage_at i inside p.first;
      second = p.second;
      first_siblings = λ j. e0 j ∷ p.first_siblings j;
      second_siblings = p.second_siblings;
      all = ap (λ zs. i ∷ numbers inside ++ zs) p.all ∙ sym (append_assoc (i ∷ numbers inside) (numbers p.first) (numbers p.second));
      first_contents = (t, l, c, p.first_contents);
      second_contents = p.second_contents;
    }
parted cases es (stream_at i rest) (x ∷ xs) ys e (t, r) =
    let e0 : i ≡ x = cc in
    let e1 : siblings rest ≡ xs ++ ys = cc in
    let p = parted cases es rest xs ys e1 r in
    record {
      first = stream_at i p.first;
      second = p.second;
      first_siblings = λ j. e0 j ∷ p.first_siblings j;
      second_siblings = p.second_siblings;
      all = ap (λ zs. i ∷ zs) p.all;
      first_contents = (t, p.first_contents);
      second_contents = p.second_contents;
    }

-- ---- what an outline's siblings are

tally-siblings : (o : Outline) (k : ℕ) → tally k (siblings o) ≤ tally k (numbers o)
tally-siblings no_more k = omega arith
tally-siblings (storage_at i inside rest) k = omega (arith, tally-append k (numbers inside) (numbers rest), tally-siblings rest k)
tally-siblings (stream_at i rest) k = omega (arith, tally-siblings rest k)

pub contents-objects : (cases : Cases) (es : List Entry) (o : Outline) → HasContents cases es o → AreObjects es (siblings o)
contents-objects cases es no_more c = tt
contents-objects cases es (storage_at i inside rest) (t, l, c, r) = (ap is_object_kind t, contents-objects cases es rest r)
contents-objects cases es (stream_at i rest) (t, r) = (ap is_object_kind t, contents-objects cases es rest r)

-- ---- what is reached

pub record Reached (cases : Cases) (es : List Entry) (tops waiting order : List ℕ) (now : List Bool) : Type 0 where
  pub size : length now ≡ length es
  pub onward : (o : Outline) → siblings o ≡ waiting → HasContents cases es o
      → (w : Outline) × (siblings w ≡ tops) × HasContents cases es w × (numbers w ≡ order ++ numbers o)
  pub back : (w : Outline) → siblings w ≡ tops → HasContents cases es w
      → (o : Outline) × (siblings o ≡ waiting) × HasContents cases es o × (numbers w ≡ order ++ numbers o)
  pub objects : AreObjects es waiting
  pub marks : (k : ℕ) → mark_count now k ≡ hit k 0 + (tally k order + tally k waiting)

pub reach-start : (cases : Cases) (es : List Entry) (top : ℕ) (tops : List ℕ) (before now : List Bool) → Family cases es top before tops
    → length now ≡ length es → ((k : ℕ) → mark_count before k ≡ hit k 0) → ((k : ℕ) → is_marked now k ≡ (is_marked before k || list_any (nat_eq k) tops))
    → Reached cases es tops tops [] now
reach-start cases es top tops before now f e m n = record {
  size = e;
  onward = λ o s c. (o, s, c, refl);
  back = λ w s c. (w, s, c, refl);
  objects = f.objects;
  marks = λ k. omega (arith, m k, counts-from-marks before now tops k (marked-once before tops f.below.distinct f.fresh k) (n k));
}

pub object-stream : (t : ObjType) → is_object_kind t ≡ true → is_storage_kind t ≡ false → t ≡ Stream
object-stream Unallocated a b = cc
object-stream Storage a b = cc
object-stream Stream a b = refl
object-stream Root a b = cc

pub storage-is : (t : ObjType) → is_storage_kind t ≡ true → t ≡ Storage
storage-is Unallocated e = cc
storage-is Storage e = refl
storage-is Stream e = cc
storage-is Root e = cc

pub one-more : (order : List ℕ) (i : ℕ) (xs : List ℕ) → order ++ i ∷ xs ≡ (order ++ i ∷ []) ++ xs
one-more order i xs = sym (append_assoc order (i ∷ []) xs)

-- an outline that begins with a stream, or with a storage
pub begins-stream : (cases : Cases) (es : List Entry) (o : Outline) (i : ℕ) (xs : List ℕ) → siblings o ≡ i ∷ xs → HasContents cases es o → (entry_at es i).obj_type ≡ Stream
    → (rest : Outline) × (siblings rest ≡ xs) × HasContents cases es rest × (numbers o ≡ i ∷ numbers rest)
begins-stream cases es no_more i xs e c t = cc
begins-stream cases es (storage_at k inside rest) i xs e c t =
    let s : k ≡ i = cc in absurd (storage_is_no_stream (entry_at es i).obj_type (subst (λ n. (entry_at es n).obj_type ≡ Storage) s c.0) t)
begins-stream cases es (stream_at k rest) i xs e c t =
    let s : k ≡ i = cc in let r : siblings rest ≡ xs = cc in (rest, r, c.1, ap (λ n. n ∷ numbers rest) s)

pub begins-storage : (cases : Cases) (es : List Entry) (o : Outline) (i : ℕ) (xs : List ℕ) → siblings o ≡ i ∷ xs → HasContents cases es o → (entry_at es i).obj_type ≡ Storage
    → (inside rest : Outline) × (siblings rest ≡ xs) × Below cases es (entry_at es i).child (siblings inside) × HasContents cases es inside × HasContents cases es rest
    × (numbers o ≡ i ∷ numbers inside ++ numbers rest)
begins-storage cases es no_more i xs e c t = cc
begins-storage cases es (stream_at k rest) i xs e c t =
    let s : k ≡ i = cc in absurd (storage_is_no_stream (entry_at es i).obj_type t (subst (λ n. (entry_at es n).obj_type ≡ Stream) s c.0))
begins-storage cases es (storage_at k inside rest) i xs e c t =
    let s : k ≡ i = cc in let r : siblings rest ≡ xs = cc in
    (inside, rest, r, subst (λ n. Below cases es (entry_at es n).child (siblings inside)) s c.1, c.2, c.3, ap (λ n. n ∷ numbers inside ++ numbers rest) s)

pub reach-stream : (cases : Cases) (es : List Entry) (tops waiting order : List ℕ) (now : List Bool) (i : ℕ) → Reached cases es tops (i ∷ waiting) order now
    → is_storage_kind (entry_at es i).obj_type ≡ false → Reached cases es tops waiting (order ++ i ∷ []) now
reach-stream cases es tops waiting order now i r nost =
    let t : (entry_at es i).obj_type ≡ Stream = object-stream (entry_at es i).obj_type r.objects.0 nost in
    record {
      size = r.size;
      onward = λ o s c.
          let (w, ws, wc, wn) = r.onward (stream_at i o) (ap (λ xs. i ∷ xs) s) (t, c) in
          (w, ws, wc, wn ∙ one-more order i (numbers o));
      back = λ w s c.
          let (o, os, oc, on) = r.back w s c in
          let (q, qs, qc, qn) = begins-stream cases es o i waiting os oc t in
          (q, qs, qc, on ∙ ap (λ xs. order ++ xs) qn ∙ one-more order i (numbers q));
      objects = r.objects.1;
      marks = λ k. omega (arith, r.marks k, tally-append k order (i ∷ []));
    }

pub reach-storage : (cases : Cases) (es : List Entry) (tops waiting order : List ℕ) (now next : List Bool) (i : ℕ) (list : List ℕ) → Reached cases es tops (i ∷ waiting) order now
    → is_storage_kind (entry_at es i).obj_type ≡ true → Family cases es (entry_at es i).child now list
    → length next ≡ length es → ((k : ℕ) → is_marked next k ≡ (is_marked now k || list_any (nat_eq k) list))
    → Reached cases es tops (list ++ waiting) (order ++ i ∷ []) next
reach-storage cases es tops waiting order now next i list r isst f e m =
    let t : (entry_at es i).obj_type ≡ Storage = storage-is (entry_at es i).obj_type isst in
    record {
      size = e;
      onward = λ o s c.
          let p = parted cases es o list waiting s c in
          let (w, ws, wc, wn) = r.onward (storage_at i p.first p.second) (ap (λ xs. i ∷ xs) p.second_siblings)
          (t, subst (Below cases es (entry_at es i).child) (sym p.first_siblings) f.below, p.first_contents, p.second_contents) in
          (w, ws, wc, wn ∙ ap (λ xs. order ++ i ∷ xs) (sym p.all) ∙ one-more order i (numbers o));
      back = λ w s c.
          let (o, os, oc, on) = r.back w s c in
          let (inside, rest, rs, below, ic, rc, qn) = begins-storage cases es o i waiting os oc t in
          let same : siblings inside ≡ list = Below-unique cases es (entry_at es i).child (siblings inside) list below f.below in (
            joined inside rest,
            siblings-joined inside rest ∙ (λ j. same j ++ rs j),
            contents-joined cases es inside rest ic rc,
            on ∙ ap (λ xs. order ++ xs) (qn ∙ ap (λ xs. i ∷ xs) (sym (numbers-joined inside rest))) ∙ one-more order i (numbers (joined inside rest)),
          );
      objects = objects-append es list waiting f.objects r.objects.1;
      marks = λ k. omega (arith, r.marks k, counts-from-marks now next list k (marked-once now list f.below.distinct f.fresh k) (m k), tally-append k order (i ∷ []), tally-append k list waiting);
    }

pub reach-end : (cases : Cases) (es : List Entry) (tops order : List ℕ) (now : List Bool) → Reached cases es tops [] order now
    → Below cases es (entry_at es 0).child tops → (entry_at es 0).obj_type ≡ Root → (entry_at es 0).stream_len % 64 ≡ 0
    → (o : Outline) × IsOutline cases es o × (order ≡ numbers o)
reach-end cases es tops order now r below root len =
    let (w, ws, wc, wn) = r.onward no_more refl tt in
    let all : numbers w ≡ order = wn ∙ append-nil order in (
      w,
      record {
        root = root;
        root_len = len;
        children = subst (Below cases es (entry_at es 0).child) (sym ws) below;
        contents = wc;
        distinct = tally-distinct (0 ∷ numbers w) (λ k. let e = ap (tally k) all in omega (arith, e, r.marks k, marked-le now k));
      },
      sym all,
    )

-- a storage whose siblings are no family leaves no outline
pub reach-broken : (cases : Cases) (es : List Entry) (tops waiting order : List ℕ) (now : List Bool) (i : ℕ) → Reached cases es tops (i ∷ waiting) order now
    → is_storage_kind (entry_at es i).obj_type ≡ true → Below cases es (entry_at es 0).child tops
    → ((list : List ℕ) → Family cases es (entry_at es i).child now list → ⊥)
    → (w : Outline) → IsOutline cases es w → ⊥
reach-broken cases es tops waiting order now i r isst below none w is =
    let t : (entry_at es i).obj_type ≡ Storage = storage-is (entry_at es i).obj_type isst in
    let ws : siblings w ≡ tops = Below-unique cases es (entry_at es 0).child (siblings w) tops is.children below in
    let (o, os, oc, on) = r.back w ws is.contents in
    let (inside, rest, rs, b, ic, rc, qn) = begins-storage cases es o i waiting os oc t in
    let fresh : (k : ℕ) → tally k (siblings inside) + mark_count now k ≤ 1 = λ k.
    let d = distinct-tally (0 ∷ numbers w) is.distinct k in
    let e = ap (tally k) (on ∙ ap (λ xs. order ++ xs) qn) in
    let f = ap (tally k) rs in
    omega (arith, d, e, f, r.marks k, tally-append k order (i ∷ numbers inside ++ numbers rest), tally-append k (numbers inside) (numbers rest), tally-siblings inside k, tally-siblings rest k) in
    none (siblings inside) (record { below = b; objects = contents-objects cases es inside ic; fresh = none-marked now (siblings inside) fresh })

pub start-broken : (cases : Cases) (es : List Entry) (before : List Bool) → ((k : ℕ) → mark_count before k ≡ hit k 0)
    → ((list : List ℕ) → Family cases es (entry_at es 0).child before list → ⊥)
    → (w : Outline) → IsOutline cases es w → ⊥
start-broken cases es before m none w is =
    let fresh : (k : ℕ) → tally k (siblings w) + mark_count before k ≤ 1 = λ k.
    let d = distinct-tally (0 ∷ numbers w) is.distinct k in
    omega (arith, d, m k, tally-siblings w k) in
    none (siblings w) (record { below = is.children; objects = contents-objects cases es w is.contents; fresh = none-marked before (siblings w) fresh })

-- ---- bounds

pub reach-inside : (cases : Cases) (es : List Entry) (tops waiting order : List ℕ) (now : List Bool) (i : ℕ) → Reached cases es tops (i ∷ waiting) order now → i < length es
reach-inside cases es tops waiting order now i r = elim (cases_lt i (length es)) [
  | inl l ↦ l
  | inr g ↦
      let z = marked-past now i (omega (arith, g, r.size)) in
      absurd (omega (arith, z, r.marks i, hit-same i))
]

pub reach-room : (cases : Cases) (es : List Entry) (tops waiting order : List ℕ) (now : List Bool) → Reached cases es tops waiting order now → length order + length waiting ≤ length es
reach-room cases es tops waiting order now r =
    let most = tally-length (order ++ waiting) (length es)
    (λ k. omega (arith, tally-append k order waiting, r.marks k, marked-le now k))
    (λ k g. let z = marked-past now k (omega (arith, g, r.size)) in omega (arith, z, tally-append k order waiting, r.marks k)) in
    omega (arith, most, length-append order waiting)

pub first-marks : (n : ℕ) (items now : List Bool) → items ≡ replicate n false → 0 < n → now ≡ set items 0 true → (k : ℕ) → mark_count now k ≡ hit k 0
first-marks n items now e l s k =
    let a : mark_count now k ≡ mark_count (set (replicate n false) 0 true) k = ap (λ m. mark_count m k) (s ∙ ap (λ m. set m 0 true) e) in
    let b = marked-set (replicate n false) 0 k (omega (arith, l, length-replicate n false)) (get_or-replicate n 0 false false l) in
    omega (arith, a, b, marked-none n k)

and-left : (a b : Bool) → (a && b) ≡ true → a ≡ true
and-left true b e = refl
and-left false b e = cc

and-right : (a b : Bool) → (a && b) ≡ true → b ≡ true
and-right true b e = e
and-right false b e = cc

kind-root : (t : ObjType) → is_root_kind t ≡ true → t ≡ Root
kind-root Unallocated e = cc
kind-root Storage e = cc
kind-root Stream e = cc
kind-root Root e = refl

pub root-kind : (e : Entry) → is_root_entry e ≡ true → e.obj_type ≡ Root
root-kind e h = kind-root e.obj_type (and-left (is_root_kind e.obj_type) (e.stream_len % 64 == 0) h)

pub root-whole : (e : Entry) → is_root_entry e ≡ true → e.stream_len % 64 ≡ 0
root-whole e h = exact_unsigned_eq (e.stream_len % 64) 0 (and-right (is_root_kind e.obj_type) (e.stream_len % 64 == 0) h)
