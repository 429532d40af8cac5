-- All that is in a storage: what was listed, and what is still waiting.
use Rattle.std.proofs.Common.{◌≡◌, ℕ, ◌+◌, ◌<◌, List, [], ◌∷◌, ◌++◌, Bool, true, false, refl, sym, ◌∙◌, ap, subst, length, arith, append-nil}
use Rattle.std.proofs.lemmas.List.{length-append}
use Rattle.cfb_format.specs.declared.objtype.ObjType.TheVariants.{Storage, Stream}
use Rattle.cfb_format.specs.Names.{Cases}
use Rattle.cfb_format.specs.DirectoryEntry.{Entry}
use Rattle.cfb_format.specs.Siblings.{entry_at, Below}
use Rattle.cfb_format.specs.Reading.{Outline, no_more, storage_at, stream_at, siblings, numbers, HasContents}
use Rattle.cfb_outline.specs.Outlines.{HasInside}
use Rattle.cfb_outline.specs.Families.{is_object_kind, is_storage_kind, AreObjects}
use Rattle.cfb_outline.proofs.Counts.{tally-length}
use Rattle.cfb_outline.proofs.Reaching.{joined, siblings-joined, numbers-joined, contents-joined, contents-objects, begins-stream, begins-storage, object-stream, storage-is, one-more}
use Rattle.cfb_outline.proofs.Insides.{Inside, below-same, contents-past, present, no-storage, no-stream}
use Rattle.cfb_format.proofs.Unique.{storage_is_no_stream}

-- what is in a storage is the same under all letters
outline-same : (cases others : Cases) (es : List Entry) (o p : Outline) → siblings o ≡ siblings p → HasContents cases es o → HasContents others es p → o ≡ p
outline-same cases others es no_more no_more e a b = refl
outline-same cases others es no_more (storage_at j inside rest) e a b = cc
outline-same cases others es no_more (stream_at j rest) e a b = cc
outline-same cases others es (storage_at i inside rest) no_more e a b = cc
outline-same cases others es (stream_at i rest) no_more e a b = cc
outline-same cases others es (storage_at i inside rest) (stream_at j rest') e a b =
    let s : i ≡ j = cc in absurd (storage_is_no_stream (entry_at es j).obj_type (subst (λ n. (entry_at es n).obj_type ≡ Storage) s a.0) b.0)
outline-same cases others es (stream_at i rest) (storage_at j inside rest') e a b =
    let s : i ≡ j = cc in absurd (storage_is_no_stream (entry_at es j).obj_type b.0 (subst (λ n. (entry_at es n).obj_type ≡ Stream) s a.0))
outline-same cases others es (storage_at i inside rest) (storage_at j inside' rest') e a b =
    let s : i ≡ j = cc in
    let r : siblings rest ≡ siblings rest' = cc in
    let same : siblings inside ≡ siblings inside' =
    below-same cases others es (entry_at es j).child (siblings inside) (siblings inside')
    (subst (λ n. Below cases es (entry_at es n).child (siblings inside)) s a.1) b.1 in
    λ k. storage_at (s k) (outline-same cases others es inside inside' same a.2 b.2 k) (outline-same cases others es rest rest' r a.3 b.3 k)
outline-same cases others es (stream_at i rest) (stream_at j rest') e a b =
    let s : i ≡ j = cc in
    let r : siblings rest ≡ siblings rest' = cc in
    λ k. stream_at (s k) (outline-same cases others es rest rest' r a.1 b.1 k)

pub record Filling (es : List Entry) (k : ℕ) (waiting order : List ℕ) : Type 0 where
  pub cases : Cases
  pub inside : Inside cases es k
  pub rest : Outline
  pub here : siblings rest ≡ waiting
  pub contents : HasContents cases es rest
  pub all : numbers inside.outline ≡ order ++ numbers rest

pub filling-start : (cases : Cases) (es : List Entry) (k : ℕ) (i : Inside cases es k) → Filling es k (siblings i.outline) []
filling-start cases es k i = record { cases = cases; inside = i; rest = i.outline; here = refl; contents = i.has.contents; all = refl }

head-object : (es : List Entry) (k i : ℕ) (waiting order : List ℕ) (f : Filling es k (i ∷ waiting) order) → is_object_kind (entry_at es i).obj_type ≡ true
head-object es k i waiting order f = (subst (AreObjects es) f.here (contents-objects f.cases es f.rest f.contents)).0

pub filling-stream : (es : List Entry) (k i : ℕ) (waiting order : List ℕ) → Filling es k (i ∷ waiting) order → is_storage_kind (entry_at es i).obj_type ≡ false
    → Filling es k waiting (order ++ i ∷ [])
filling-stream es k i waiting order f nost =
    let t : (entry_at es i).obj_type ≡ Stream = object-stream (entry_at es i).obj_type (head-object es k i waiting order f) nost in
    let (q, qs, qc, qn) = begins-stream f.cases es f.rest i waiting f.here f.contents t in
    record {
      cases = f.cases;
      inside = f.inside;
      rest = q;
      here = qs;
      contents = qc;
      all = f.all ∙ ap (λ xs. order ++ xs) qn ∙ one-more order i (numbers q);
    }

-- the children of the storage that comes next
pub record Next (es : List Entry) (k i : ℕ) (waiting order : List ℕ) : Type 0 where
  pub cases : Cases
  pub list : List ℕ
  pub below : Below cases es (entry_at es i).child list
  pub filling : Filling es k (list ++ waiting) (order ++ i ∷ [])

pub filling-storage : (es : List Entry) (k i : ℕ) (waiting order : List ℕ) → Filling es k (i ∷ waiting) order → is_storage_kind (entry_at es i).obj_type ≡ true
    → Next es k i waiting order
filling-storage es k i waiting order f st =
    let t : (entry_at es i).obj_type ≡ Storage = storage-is (entry_at es i).obj_type st in
    let (inside, rest, rs, below, ic, rc, qn) = begins-storage f.cases es f.rest i waiting f.here f.contents t in
    record {
      cases = f.cases;
      list = siblings inside;
      below = below;
      filling = record {
        cases = f.cases;
        inside = f.inside;
        rest = joined inside rest;
        here = siblings-joined inside rest ∙ ap (λ xs. siblings inside ++ xs) rs;
        contents = contents-joined f.cases es inside rest ic rc;
        all = f.all ∙ ap (λ xs. order ++ xs) (qn ∙ ap (λ xs. i ∷ xs) (sym (numbers-joined inside rest))) ∙ one-more order i (numbers (joined inside rest));
      };
    }

pub filling-inside : (es : List Entry) (k i : ℕ) (waiting order : List ℕ) → Filling es k (i ∷ waiting) order → i < length es
filling-inside es k i waiting order f = go (is_storage_kind (entry_at es i).obj_type) refl
  where
    go : (b : Bool) → is_storage_kind (entry_at es i).obj_type ≡ b → i < length es
    go true e = present es i Storage no-storage (storage-is (entry_at es i).obj_type e)
    go false e = present es i Stream no-stream (object-stream (entry_at es i).obj_type (head-object es k i waiting order f) e)

first-number : (o : Outline) (i : ℕ) (waiting : List ℕ) → siblings o ≡ i ∷ waiting → 0 < length (numbers o)
first-number no_more i waiting e = cc
first-number (storage_at j inside rest) i waiting e = omega arith
first-number (stream_at j rest) i waiting e = omega arith

pub filling-room : (es : List Entry) (k i : ℕ) (waiting order : List ℕ) → Filling es k (i ∷ waiting) order → length order < length es
filling-room es k i waiting order f =
    let most = tally-length (numbers f.inside.outline) (length es) f.inside.once (contents-past f.cases es f.inside.outline f.inside.has.contents) in
    let all : length (numbers f.inside.outline) ≡ length order + length (numbers f.rest) = ap length f.all ∙ length-append order (numbers f.rest) in
    omega (arith, most, all, first-number f.rest i waiting f.here)

ended : (o : Outline) → siblings o ≡ [] → numbers o ≡ []
ended no_more e = refl
ended (storage_at j inside rest) e = cc
ended (stream_at j rest) e = cc

pub filling-end : (es : List Entry) (k : ℕ) (order : List ℕ) → Filling es k [] order
    → (cases : Cases) (o : Outline) → HasInside cases es k o → order ≡ numbers o
filling-end es k order f cases o has =
    let i = f.inside in
    let same : i.outline ≡ o =
    outline-same f.cases cases es i.outline o (below-same f.cases cases es (entry_at es k).child (siblings i.outline) (siblings o) i.has.children has.children) i.has.contents has.contents in
    sym (f.all ∙ ap (λ xs. order ++ xs) (ended f.rest f.here) ∙ append-nil order) ∙ ap numbers same
