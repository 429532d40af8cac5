-- Paths along a table.
use Rattle.std.proofs.Common.{ℕ, ◌≡◌, ◌≢◌, ◌<◌, ◌≤◌, List, [], ◌∷◌, ◌++◌, length, refl, sym, ◌∙◌, ap, subst, inl, inr, arith}
use Rattle.std.specs.Prelude.{Contains, IsTrue, slice_index, nat_eq}
use Rattle.std.specs.List.{IsDistinct}
use Rattle.cfb_format.specs.Bytes.{end_of_chain, is_regular}
use Rattle.cfb_format.specs.Chain.{Follows}
use Rattle.cfb_format.proofs.Chains.{Follows-distinct}
use Rattle.cfb_format.proofs.Members.{Contains-cases, Contains-here, Contains-there, Contains-nil, distinct-apart}
use Rattle.cfb_format.proofs.Walks.{follows-next}
use Rattle.cfb_flaws.specs.Claims.{IsPath}

-- one number more
pub path-push : (table : List ℕ) (s : ℕ) (path : List ℕ) (t : ℕ) → IsPath table s path t → t ≢ end_of_chain → t < length table → IsTrue (is_regular t)
    → IsPath table s (path ++ t ∷ []) (slice_index table t)
path-push table s [] t p ne lt regular =
    subst (λ (k : ℕ). (k ≡ t) × (k ≢ end_of_chain) × (t < length table) × (slice_index table t ≡ slice_index table t) × IsTrue (is_regular t)) (sym p)
    (refl, ne, lt, refl, regular)
path-push table s (i ∷ path) t p ne lt regular = (p.0, p.1, p.2, path-push table (slice_index table i) path t p.3 ne lt regular, p.4)

-- a chain from its end makes one from its start
pub path-joins : (table : List ℕ) (s : ℕ) (path : List ℕ) (t : ℕ) (rest : List ℕ) → IsPath table s path t → Follows table t rest → Follows table s (path ++ rest)
path-joins table s [] t rest p f = subst (λ (k : ℕ). Follows table k rest) (sym p) f
path-joins table s (i ∷ path) t rest p f = (p.0, p.1, p.2, path-joins table (slice_index table i) path t rest p.3 f, p.4)

-- and each chain from its start is one from its end behind it
pub path-splits : (table : List ℕ) (s : ℕ) (path : List ℕ) (t : ℕ) (xs : List ℕ) → IsPath table s path t → Follows table s xs
    → (rest : List ℕ) × (xs ≡ path ++ rest) × Follows table t rest
path-splits table s [] t xs p f = (xs, refl, subst (λ (k : ℕ). Follows table k xs) p f)
path-splits table s (i ∷ path) t xs p f =
    let n = follows-next table s xs p.1 f in
    let next : Follows table (slice_index table i) n.0 = subst (λ (k : ℕ). Follows table (slice_index table k) n.0) p.0 n.3 in
    let r = path-splits table (slice_index table i) path t n.0 p.3 next in
    (r.0, n.1 ∙ (λ j. p.0 j ∷ r.1 j), r.2)

-- from each member on it is a path too
pub path-from : (table : List ℕ) (s : ℕ) (path : List ℕ) (t i : ℕ) → IsPath table s path t → Contains path i
    → (q : List ℕ) × IsPath table i q t × ((j : ℕ) → Contains q j → Contains path j) × Contains q i
path-from table s [] t i p m = absurd (Contains-nil i m)
path-from table s (x ∷ path) t i p m = elim (Contains-cases x path i m) [
  | inl same ↦ (
    x ∷ path,
    subst (λ (k : ℕ). IsPath table k (x ∷ path) t) (p.0 ∙ same) p,
    (λ j h. h),
    m,
  )
  | inr r ↦
      let f = path-from table (slice_index table x) path t i p.3 r in
      (f.0, f.1, (λ j h. Contains-there x path j (f.2 j h)), f.3)
]

-- where a path comes back to its start there is no chain
pub no-way-round : (table : List ℕ) (t : ℕ) (path xs : List ℕ) → IsPath table t path t → Contains path t → t ≢ end_of_chain → Follows table t xs → ⊥
no-way-round table t path xs p m ne f =
    let r = path-splits table t path t xs p f in
    let n = follows-next table t r.0 ne r.2 in
    let again : Contains r.0 t = subst (λ (z : List ℕ). Contains z t) (sym n.1) (Contains-here t n.0) in
    distinct-apart path r.0 (subst (IsDistinct nat_eq) r.1 (Follows-distinct table t xs f)) t m again

pub path-below : (table : List ℕ) (s : ℕ) (path : List ℕ) (t i : ℕ) → IsPath table s path t → Contains path i → i < length table
path-below table s [] t i p m = absurd (Contains-nil i m)
path-below table s (x ∷ path) t i p m = elim (Contains-cases x path i m) [
  | inl same ↦ subst (λ (k : ℕ). k < length table) same p.2
  | inr r ↦ path-below table (slice_index table x) path t i p.3 r
]
