-- Lists that point to no others, and starts that nothing names.
use Rattle.std.proofs.Common.{◌≡◌, ◌≢◌, ◌<◌, inl, inr, ℕ, List, [], ◌∷◌, ◌++◌, sym, ap, subst, length, arith, length-append}
use Rattle.std.specs.Prelude.{Contains, IsTrue}
use Rattle.std.proofs.lemmas.List.Elements.{Contains-append_left, Contains-append_right, Contains-append_cases}
use Rattle.cfb_format.specs.Bytes.{free_sector, is_regular}
use Rattle.cfb_format.specs.Chain.{value, IsChain}
use Rattle.cfb_format.proofs.Unique.{IsChain-unique}
use Rattle.cfb_tables.specs.Owners.{ChainsAreClosed, MarksAreClosed, ClosedTogether, OwnedStartIsUnnamed}
use Rattle.cfb_tables.proofs.ChainLemmas.{chain-rest}
use Rattle.cfb_tables.proofs.Members.{in_three, second_of_three}
use Rattle.cfb_format.proofs.Walks.{regular-le}
use Rattle.cfb_format.proofs.Members.{Contains-here, Contains-there, Contains-or, Contains-split, distinct-left, distinct-apart}

-- a chain that doesn't end at once has its start as a member
start_in : (table : List ℕ) (s : ℕ) (list : List ℕ) → IsChain table s list → 0 < length list → Contains list s
start_in table s [] chain some = absurd (omega (arith, some))
start_in table s (x ∷ list) chain some = subst (λ k. Contains (x ∷ list) k) (sym chain.follows.0) (Contains-here x list)

-- so has one from a regular number
regular_in : (table : List ℕ) (s : ℕ) (list : List ℕ) → IsChain table s list → IsTrue (is_regular s) → Contains list s
regular_in table s [] chain regular = absurd (let le = regular-le s regular in let end = chain.follows in omega (arith, le, end))
regular_in table s (x ∷ list) chain regular = subst (λ k. Contains (x ∷ list) k) (sym chain.follows.0) (Contains-here x list)

-- behind a member comes the rest of the chain
rest_of : (table : List ℕ) (s : ℕ) (list : List ℕ) → IsChain table s list → (i : ℕ) → Contains list i
    → (front : List ℕ) × (back : List ℕ) × (list ≡ front ++ i ∷ back) × IsChain table (value table i) back
rest_of table s list chain i m =
    let p = Contains-split list i m in
    (p.0, p.1, p.2, chain-rest table s p.0 i p.1 (subst (λ (l : List ℕ). IsChain table s l) p.2 chain))

pub chains-closed : ChainsAreClosed
chains-closed table start list chain i m regular =
    let r = rest_of table start list chain i m in
    subst (λ (l : List ℕ). Contains l (value table i)) (sym r.2)
    (Contains-append_right r.0 (i ∷ r.1) (value table i) (Contains-there i r.1 (value table i) (regular_in table (value table i) r.1 r.3 regular)))

pub marks-closed : MarksAreClosed
marks-closed table xs none i m regular = absurd (none i m regular)

pub closed-together : ClosedTogether
closed-together table xs ys cx cy i m regular = elim (Contains-append_cases xs ys i m) [
  | inl x ↦ Contains-append_left xs ys (value table i) (cx i x regular)
  | inr y ↦ Contains-append_right xs ys (value table i) (cy i y regular)
]

-- no member names the start of its own chain
start_unnamed : (table : List ℕ) (s : ℕ) (list : List ℕ) → IsChain table s list → (i : ℕ) → Contains list i → value table i ≢ s
start_unnamed table s list chain i m named =
    let r = rest_of table s list chain i m in
    let same : r.1 ≡ list = IsChain-unique table s r.1 list (subst (λ k. IsChain table k r.1) named r.3) chain in
    let short = ap (λ (l : List ℕ). length l) same in
    let long = ap (λ (l : List ℕ). length l) r.2 in
    let parts = length-append r.0 (i ∷ r.1) in
    omega (arith, short, long, parts)

pub owned-unnamed : OwnedStartIsUnnamed
owned-unnamed table front list back start uses chain some closed closed' j lt regular named =
    let here = start_in table start list chain some in
    let busy : value table j ≢ free_sector = λ e. let le = regular-le (value table j) regular in omega (arith, le, e) in
    elim (Contains-or (front ++ list ++ back) j) [
      | inr out ↦ (uses.loose j (busy, out) regular).1 (second_of_three front list back (value table j) (subst (λ k. Contains list k) (sym named) here))
      | inl m ↦ elim (in_three front list back j m) [
        | inl f ↦ distinct-apart front list (distinct-left (front ++ list) back uses.distinct) start (subst (λ k. Contains front k) named (closed j f regular)) here
        | inr r ↦ elim r [
          | inl mine ↦ start_unnamed table start list chain j mine named
          | inr b ↦ distinct-apart (front ++ list) back uses.distinct start (Contains-append_right front list start here)
              (subst (λ k. Contains back k) named (closed' j b regular))
        ]
      ]
    ]
