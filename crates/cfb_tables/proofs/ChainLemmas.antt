-- Chains while their table changes.
use Rattle.std.proofs.Common.{◌≡◌, ◌≢◌, ◌<◌, ◌≤◌, ◌⊎◌, inl, inr, ℕ, List, [], ◌∷◌, ◌++◌, refl, sym, ◌∙◌, ap, subst, length, arith}
use Rattle.std.specs.Prelude.{slice_index, Contains, IsTrue}
use Rattle.std.proofs.lemmas.List.Elements.{Contains-append_left}
use Rattle.cfb_format.specs.Bytes.{end_of_chain, free_sector, is_regular, max_regular_sector}
use Rattle.cfb_format.specs.Chain.{value, Follows, IsChain}
use Rattle.cfb_format.proofs.Chains.{Follows-distinct}
use Rattle.cfb_tables.specs.Changes.{AreDisjoint, ChangesOnlyValues}
use Rattle.cfb_format.proofs.Members.{Contains-here, Contains-there, Contains-nil, Contains-cases, distinct-apart}
use Rattle.cfb_format.proofs.Walks.{value-at, value-below, regular-le, chain_of, follows-member}

-- a member's value names the next one or is the end
pub follows-values : (table : List ℕ) (s : ℕ) (list : List ℕ) → Follows table s list → (i : ℕ) → Contains list i
    → (value table i ≤ max_regular_sector) ⊎ (value table i ≡ end_of_chain)
follows-values table s [] f i m = absurd (Contains-nil i m)
follows-values table s (x ∷ []) f i m = elim (Contains-cases x [] i m) [
  | inl same ↦ inr (ap (value table) (sym same) ∙ value-at table x f.2 ∙ f.3)
  | inr r ↦ absurd (Contains-nil i r)
]
follows-values table s (x ∷ y ∷ list) f i m = elim (Contains-cases x (y ∷ list) i m) [
  | inl same ↦
      let w : value table i ≡ y = ap (value table) (sym same) ∙ value-at table x f.2 ∙ f.3.0 in
      let le = regular-le y f.3.4 in inl (omega (arith, w, le))
  | inr r ↦ follows-values table (slice_index table x) (y ∷ list) f.3 i r
]

pub follows-busy : (table : List ℕ) (s : ℕ) (list : List ℕ) → Follows table s list → (i : ℕ) → Contains list i → value table i ≢ free_sector
follows-busy table s list f i m e = elim (follows-values table s list f i m) [ inl le ↦ omega (arith, le, e) | inr is ↦ omega (arith, is, e) ]

pub members-busy : (table : List ℕ) (s : ℕ) (list : List ℕ) → IsChain table s list → (i : ℕ) → Contains list i
    → (value table i ≢ free_sector) × (i < length table) × IsTrue (is_regular i)
members-busy table s list c i m =
    let w = follows-member table s list c.follows i m in
    (follows-busy table s list c.follows i m, w.0, w.1)

follows-stays : (old new : List ℕ) (s : ℕ) (list : List ℕ) → ((i : ℕ) → Contains list i → value old i ≢ free_sector)
    → ((i : ℕ) → Contains list i → value new i ≡ value old i) → Follows old s list → Follows new s list
follows-stays old new s [] busy same f = f
follows-stays old new s (x ∷ list) busy same f =
    let here = same x (Contains-here x list) in
    let there : x < length new = value-below new x (λ e. busy x (Contains-here x list) (sym here ∙ e)) in
    let next : slice_index new x ≡ slice_index old x = sym (value-at new x there) ∙ here ∙ value-at old x f.2 in (
      f.0,
      f.1,
      there,
      subst (λ k. Follows new k list) (sym next)
          (follows-stays old new (slice_index old x) list (λ i m. busy i (Contains-there x list i m)) (λ i m. same i (Contains-there x list i m)) f.3),
      f.4,
    )

pub chain-stays : (old new : List ℕ) (s : ℕ) (list : List ℕ) → ((i : ℕ) → Contains list i → value new i ≡ value old i)
    → IsChain old s list → IsChain new s list
chain-stays old new s list same c = record {
  follows = follows-stays old new s list (follows-busy old s list c.follows) same c.follows;
  distinct = c.distinct;
}

pub other-chains-stay : (touched old new : List ℕ) (s : ℕ) (list : List ℕ) → ChangesOnlyValues touched old new → AreDisjoint list touched
    → IsChain old s list → IsChain new s list
other-chains-stay touched old new s list only apart c = chain-stays old new s list (λ i m. only i (apart i m)) c

follows-turn : (old new : List ℕ) (s : ℕ) (xs : List ℕ) (x : ℕ) (ys zs : List ℕ) → ((i : ℕ) → Contains xs i → value old i ≢ free_sector)
    → ((i : ℕ) → Contains xs i → value new i ≡ value old i)
    → x < length new → Follows old s (xs ++ x ∷ ys) → Follows new (slice_index new x) zs → Follows new s (xs ++ x ∷ zs)
follows-turn old new s [] x ys zs busy same lt f g = (f.0, f.1, lt, g, f.4)
follows-turn old new s (y ∷ xs) x ys zs busy same lt f g =
    let here = same y (Contains-here y xs) in
    let there : y < length new = value-below new y (λ e. busy y (Contains-here y xs) (sym here ∙ e)) in
    let next : slice_index new y ≡ slice_index old y = sym (value-at new y there) ∙ here ∙ value-at old y f.2 in (
      f.0,
      f.1,
      there,
      subst (λ k. Follows new k (xs ++ x ∷ zs)) (sym next)
          (follows-turn old new (slice_index old y) xs x ys zs (λ i m. busy i (Contains-there y xs i m)) (λ i m. same i (Contains-there y xs i m)) lt f.3 g),
      f.4,
    )

pub chain-turn : (old new : List ℕ) (s : ℕ) (xs : List ℕ) (x : ℕ) (ys zs : List ℕ) → ((i : ℕ) → Contains xs i → value new i ≡ value old i)
    → x < length new → IsChain old s (xs ++ x ∷ ys) → IsChain new (value new x) zs → IsChain new s (xs ++ x ∷ zs)
chain-turn old new s xs x ys zs same lt c d =
    let busy = follows-busy old s (xs ++ x ∷ ys) c.follows in
    let g : Follows new (slice_index new x) zs = subst (λ k. Follows new k zs) (value-at new x lt) d.follows in
    chain_of new s (xs ++ x ∷ zs) (follows-turn old new s xs x ys zs (λ i m. busy i (Contains-append_left xs (x ∷ ys) i m)) same lt c.follows g)

-- from a member the chain is its rest
pub follows-rest : (table : List ℕ) (s : ℕ) (xs : List ℕ) (x : ℕ) (ys : List ℕ) → Follows table s (xs ++ x ∷ ys) → Follows table x (x ∷ ys)
follows-rest table s [] x ys f = (refl, subst (λ k. k ≢ end_of_chain) f.0 f.1, f.2, f.3, f.4)
follows-rest table s (y ∷ xs) x ys f = follows-rest table (slice_index table y) xs x ys f.3

pub chain-rest : (table : List ℕ) (s : ℕ) (xs : List ℕ) (x : ℕ) (ys : List ℕ) → IsChain table s (xs ++ x ∷ ys) → IsChain table (value table x) ys
chain-rest table s xs x ys c =
    let f = follows-rest table s xs x ys c.follows in
    chain_of table (value table x) ys (subst (λ k. Follows table k ys) (sym (value-at table x f.2)) f.3)

-- a member whose chain goes on isn't in the rest
pub chain-apart : (table : List ℕ) (x : ℕ) (xs : List ℕ) → x < length table → IsTrue (is_regular x) → IsChain table (value table x) xs → Contains xs x → ⊥
chain-apart table x xs lt regular c m =
    let g : Follows table (slice_index table x) xs = subst (λ k. Follows table k xs) (value-at table x lt) c.follows in
    let whole : Follows table x (x ∷ xs) = (refl, (λ e. let le = regular-le x regular in omega (arith, le, e)), lt, g, regular) in
    distinct-apart (x ∷ []) xs (Follows-distinct table x (x ∷ xs) whole) x (Contains-here x []) m
