-- Two lists, element by element.
use Rattle.std.proofs.Common.{◌≡◌, ◌<◌, ℕ, zero, suc, List, [], ◌∷◌, ◌++◌, refl, ap, length, arith}
use Rattle.std.specs.Prelude.{slice_index, slice_index_or, flat_map}
use Rattle.std.specs.List.{AllZip}

module _ {A B : Type 0} (R : A → B → Type 0) where
  pub zip-append : (xs xs' : List A) (ys ys' : List B) → AllZip R xs ys → AllZip R xs' ys' → AllZip R (xs ++ xs') (ys ++ ys')
  zip-append [] xs' [] ys' z w = w
  zip-append [] xs' (y ∷ ys) ys' z w = elim z [ ]
  zip-append (x ∷ xs) xs' [] ys' z w = elim z [ ]
  zip-append (x ∷ xs) xs' (y ∷ ys) ys' z w = (z.0, zip-append xs xs' ys ys' z.1 w)

  pub zip-front : (xs xs' : List A) (ys : List B) → AllZip R (xs ++ xs') ys → (front : List B) × AllZip R xs front
  zip-front [] xs' ys z = ([], tt)
  zip-front (x ∷ xs) xs' [] z = elim z [ ]
  zip-front (x ∷ xs) xs' (y ∷ ys) z = let r = zip-front xs xs' ys z.1 in (y ∷ r.0, (z.0, r.1))

  pub zip-back : (xs xs' : List A) (ys : List B) → AllZip R (xs ++ xs') ys → (back : List B) × AllZip R xs' back
  zip-back [] xs' ys z = (ys, z)
  zip-back (x ∷ xs) xs' [] z = elim z [ ]
  zip-back (x ∷ xs) xs' (y ∷ ys) z = zip-back xs xs' ys z.1

  -- what stands beside one of the lists that make up the first
  pub zip-part : (f : ℕ → List A) (list : List ℕ) (k : ℕ) (ys : List B) → k < length list → AllZip R (flat_map f list) ys
      → (part : List B) × AllZip R (f (slice_index list k)) part
  zip-part f [] k ys lt z = absurd (omega arith)
  zip-part f (i ∷ list) zero ys lt z = zip-front (f i) (flat_map f list) ys z
  zip-part f (i ∷ list) (suc k) ys lt z = let r = zip-back (f i) (flat_map f list) ys z in zip-part f list k r.0 (omega arith) r.1

  pub zip-length : (xs : List A) (ys : List B) → AllZip R xs ys → length xs ≡ length ys
  zip-length [] [] z = refl
  zip-length [] (y ∷ ys) z = elim z [ ]
  zip-length (x ∷ xs) [] z = elim z [ ]
  zip-length (x ∷ xs) (y ∷ ys) z = ap suc (zip-length xs ys z.1)

  pub zip-at : (xs : List A) (ys : List B) (k : ℕ) (d : A) (e : B) → AllZip R xs ys → k < length ys → R (slice_index_or xs k d) (slice_index_or ys k e)
  zip-at [] [] k d e z lt = absurd (omega arith)
  zip-at [] (y ∷ ys) k d e z lt = elim z [ ]
  zip-at (x ∷ xs) [] k d e z lt = elim z [ ]
  zip-at (x ∷ xs) (y ∷ ys) zero d e z lt = z.0
  zip-at (x ∷ xs) (y ∷ ys) (suc k) d e z lt = zip-at xs ys k d e z.1 (omega arith)

  -- what stands beside an element of the first
  pub zip-beside : (xs : List A) (ys : List B) (k : ℕ) (d : A) → AllZip R xs ys → k < length xs → (y : B) × R (slice_index_or xs k d) y
  zip-beside [] ys k d z lt = absurd (omega arith)
  zip-beside (x ∷ xs) [] k d z lt = elim z [ ]
  zip-beside (x ∷ xs) (y ∷ ys) zero d z lt = (y, z.0)
  zip-beside (x ∷ xs) (y ∷ ys) (suc k) d z lt = zip-beside xs ys k d z.1 (omega arith)

pub zip-as : {A B : Type 0} (R S : A → B → Type 0) → ((x : A) (y : B) → R x y → S x y) → (xs : List A) (ys : List B) → AllZip R xs ys → AllZip S xs ys
zip-as R S f [] [] z = tt
zip-as R S f [] (y ∷ ys) z = elim z [ ]
zip-as R S f (x ∷ xs) [] z = elim z [ ]
zip-as R S f (x ∷ xs) (y ∷ ys) z = (f x y z.0, zip-as R S f xs ys z.1)

pub zip-both : {A B : Type 0} (P Q R : A → B → Type 0) → ((x : A) (y : B) → P x y → Q x y → R x y) → (xs : List A) (ys : List B)
    → AllZip P xs ys → AllZip Q xs ys → AllZip R xs ys
zip-both P Q R f [] [] z w = tt
zip-both P Q R f [] (y ∷ ys) z w = elim z [ ]
zip-both P Q R f (x ∷ xs) [] z w = elim z [ ]
zip-both P Q R f (x ∷ xs) (y ∷ ys) z w = (f x y z.0 w.0, zip-both P Q R f xs ys z.1 w.1)
