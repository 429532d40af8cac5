-- The chain from a start is found by walking it.
use Rattle.std.proofs.Common.{◌≡◌, ℕ, zero, suc, ◌<◌, ◌≤◌, List, [], ◌∷◌, Bool, true, false, refl, sym, ◌∙◌, ap, subst, length, arith, ◌||◌}
use Rattle.std.specs.Prelude.{slice_index, Option, Some, None, nat_eq, nat_lt, ◌↔◌, ◌==◌, option_map, is_some, if◌then◌else◌, ◌&&◌, IsTrue}
use Rattle.std.specs.List.{IsDistinct, AllByRecursion, list_any}
use Rattle.std.proofs.lemmas.Map.Steps.{length-le_from_distinct_below}
use Rattle.std.proofs.lemmas.Map.Views.{exact_unsigned_eq}
use Rattle.std.proofs.lemmas.Bool.{ne_eqb, eqb-false, lt-ltb, ltb-true}
use Rattle.cfb_format.specs.Bytes.{end_of_chain, is_regular}
use Rattle.cfb_format.specs.Chain.{Follows, IsChain, chain_within, chain_from}
use Rattle.cfb_format.proofs.Unique.{Follows-unique, same_some}

none_some : {A : Type 0} (x : A) → None ≡ Some x → ⊥
none_some x e = let f : false ≡ true = ap is_some e in cc

pub both_true : (a b : Bool) → a && b ≡ true → (a ≡ true) × (b ≡ true)
both_true true b e = (refl, e)
both_true false b e = cc

-- ---- a list that follows has no member twice

pub none_from : {A : Type 0} (p : A → Bool) (xs : List A) → list_any p xs ≡ false → AllByRecursion (λ y. p y ≡ false) xs
none_from p [] e = tt
none_from p (x ∷ xs) e = go (p x) refl (λ k. none_from p xs k)
  where
    go : (b : Bool) → p x ≡ b → (list_any p xs ≡ false → AllByRecursion (λ y. p y ≡ false) xs) → AllByRecursion (λ y. p y ≡ false) (x ∷ xs)
    go true h more = let f : true ≡ false = sym (ap (λ b. b || list_any p xs) h) ∙ e in cc
    go false h more = (h, more (sym (ap (λ b. b || list_any p xs) h) ∙ e))

-- from a member on, the list follows too
rest_from : (table : List ℕ) (s : ℕ) (xs : List ℕ) (i : ℕ) → Follows table s xs → list_any (nat_eq i) xs ≡ true
    → (ys : List ℕ) × Follows table i ys × (length ys ≤ length xs)
rest_from table s [] i f e = cc
rest_from table s (x ∷ xs) i f e = go (nat_eq i x) refl (λ k. rest_from table (slice_index table x) xs i f.3 k)
  where
    go : (b : Bool) → nat_eq i x ≡ b → (list_any (nat_eq i) xs ≡ true → (ys : List ℕ) × Follows table i ys × (length ys ≤ length xs))
        → (ys : List ℕ) × Follows table i ys × (length ys ≤ length (x ∷ xs))
    go true h more =
        let same : i ≡ s = exact_unsigned_eq i x h ∙ sym f.0 in
        (x ∷ xs, subst (λ k. Follows table k (x ∷ xs)) (sym same) f, omega arith)
    go false h more =
        let r = more (sym (ap (λ b. b || list_any (nat_eq i) xs) h) ∙ e) in
        (r.0, r.1, omega (arith, r.2))

pub Follows-distinct : (table : List ℕ) (s : ℕ) (xs : List ℕ) → Follows table s xs → IsDistinct nat_eq xs
unfolding IsDistinct
Follows-distinct table s [] f = tt
Follows-distinct table s (x ∷ xs) f = (go (list_any (nat_eq x) xs) refl, Follows-distinct table (slice_index table x) xs f.3)
  where
    go : (b : Bool) → list_any (nat_eq x) xs ≡ b → AllByRecursion (λ y. nat_eq x y ≡ false) xs
    go false e = none_from (nat_eq x) xs e
    go true e =
        let r = rest_from table (slice_index table x) xs x f.3 e in
        let here : Follows table x (x ∷ xs) = subst (λ k. Follows table k (x ∷ xs)) f.0 f in
        let same : length r.0 ≡ length (x ∷ xs) = ap length (Follows-unique table x r.0 (x ∷ xs) r.1 here) in
        absurd (omega (arith, r.2, same))

-- ---- its members are numbers of the table

below-Follows : (table : List ℕ) (s : ℕ) (xs : List ℕ) → Follows table s xs → (q : ℕ) → list_any (nat_eq q) xs ≡ true → q < length table
below-Follows table s [] f q e = cc
below-Follows table s (x ∷ xs) f q e = go (nat_eq q x) refl (λ k. below-Follows table (slice_index table x) xs f.3 q k)
  where
    go : (b : Bool) → nat_eq q x ≡ b → (list_any (nat_eq q) xs ≡ true → q < length table) → q < length table
    go true h more = subst (λ k. k < length table) (sym (exact_unsigned_eq q x h)) f.2
    go false h more = more (sym (ap (λ b. b || list_any (nat_eq q) xs) h) ∙ e)

pub Follows-length : (table : List ℕ) (s : ℕ) (xs : List ℕ) → Follows table s xs → length xs ≤ length table
Follows-length table s xs f = length-le_from_distinct_below xs (length table) (Follows-distinct table s xs f) (below-Follows table s xs f)

-- ---- walking finds exactly the chain

-- the walk from s, one member at a time
ended : (table : List ℕ) (more s : ℕ) → s ≡ end_of_chain → chain_within table more s ≡ Some []
unfolding chain_within
ended table zero s e = rw e refl
ended table (suc more) s e = rw e refl

pub chain_within-Follows : (table : List ℕ) (more s : ℕ) (xs : List ℕ) → Follows table s xs → length xs ≤ more → chain_within table more s ≡ Some xs
unfolding chain_within
chain_within-Follows table more s [] f h = ended table more s f
chain_within-Follows table zero s (x ∷ xs) f h = absurd (omega arith)
chain_within-Follows table (suc more) s (x ∷ xs) f h =
    let inside : s < length table = subst (λ k. k < length table) (sym f.0) f.2 in
    let rest : Follows table (slice_index table s) xs = subst (λ k. Follows table (slice_index table k) xs) (sym f.0) f.3 in
    let go : chain_within table more (slice_index table s) ≡ Some xs = chain_within-Follows table more (slice_index table s) xs rest (omega arith) in
    let regular : IsTrue (is_regular s) = subst (λ k. IsTrue (is_regular k)) (sym f.0) f.4 in
    (λ i. if ne_eqb s end_of_chain f.1 i then Some [] else
    (if regular i && lt-ltb s (length table) inside i then option_map (λ list. s ∷ list) (go i) else None))
    ∙ ap (λ k. Some (k ∷ xs)) f.0

-- what a step of the walk needs
pub Follows-chain_within : (table : List ℕ) (more s : ℕ) (xs : List ℕ) → chain_within table more s ≡ Some xs → Follows table s xs
unfolding chain_within
Follows-chain_within table zero s xs e = go (s == end_of_chain) refl
  where
    go : (b : Bool) → (s == end_of_chain) ≡ b → Follows table s xs
    go true h =
        let empty : [] ≡ xs = same_some [] xs (sym (ap (λ b. if b then Some [] else None) h) ∙ e) in
        subst (λ l. Follows table s l) empty (exact_unsigned_eq s end_of_chain h)
    go false h = absurd (none_some xs (sym (ap (λ b. if b then Some [] else None) h) ∙ e))
Follows-chain_within table (suc more) s xs e = go (s == end_of_chain) (is_regular s && nat_lt s (length table)) (chain_within table more (slice_index table s)) refl refl refl
    (λ l k. Follows-chain_within table more (slice_index table s) l k)
  where
    step : Bool → Bool → Option (List ℕ) → Option (List ℕ)
    step b c o = if b then Some [] else (if c then option_map (λ list. s ∷ list) o else None)

    go : (b c : Bool) (o : Option (List ℕ)) → (s == end_of_chain) ≡ b → (is_regular s && nat_lt s (length table)) ≡ c → chain_within table more (slice_index table s) ≡ o
        → ((l : List ℕ) → chain_within table more (slice_index table s) ≡ Some l → Follows table (slice_index table s) l) → Follows table s xs
    go true c o h g w next =
        let empty : [] ≡ xs = same_some [] xs (sym (λ i. step (h i) (g i) (w i)) ∙ e) in
        subst (λ l. Follows table s l) empty (exact_unsigned_eq s end_of_chain h)
    go false false o h g w next = absurd (none_some xs (sym (λ i. step (h i) (g i) (w i)) ∙ e))
    go false true None h g w next = absurd (none_some xs (sym (λ i. step (h i) (g i) (w i)) ∙ e))
    go false true (Some l) h g w next =
        let made : s ∷ l ≡ xs = same_some (s ∷ l) xs (sym (λ i. step (h i) (g i) (w i)) ∙ e) in
        subst (λ l. Follows table s l) made (refl, eqb-false s end_of_chain h, ltb-true s (length table) (both_true (is_regular s) (nat_lt s (length table)) g).1, next l w, (both_true (is_regular s) (nat_lt s (length table)) g).0)

-- walking finds exactly the chain
pub chain_from-IsChain : (table : List ℕ) (s : ℕ) (xs : List ℕ) → (chain_from table s ≡ Some xs) ↔ IsChain table s xs
chain_from-IsChain table s xs = (
  (λ e. let f : Follows table s xs = Follows-chain_within table (length table) s xs e in record { follows = f; distinct = Follows-distinct table s xs f }),
  λ c. chain_within-Follows table (length table) s xs c.follows (Follows-length table s xs c.follows),
)
