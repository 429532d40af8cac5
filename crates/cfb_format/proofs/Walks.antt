-- A walk along a chain.
use Rattle.std.specs.Prelude.{IsTrue, Contains, slice_index}
use Rattle.std.proofs.lemmas.Bool.{leb-true, le-leb, cases_lt}
use Rattle.std.proofs.Common.{ℕ, ◌≤◌, List, [], inl, inr, length, subst, ◌<◌, ◌∷◌, ◌≢◌, ◌≡◌, ◌++◌, refl, ap, sym, ◌∙◌, arith, ◌⊎◌, true}
use Rattle.std.proofs.lemmas.List.{get_or_past, get_or_default, append_assoc, append-nil}
use Rattle.cfb_format.specs.Bytes.{is_regular, max_regular_sector, free_sector, end_of_chain, is_whole_sector}
use Rattle.cfb_format.specs.Chain.{Follows, IsChain, value}
use Rattle.cfb_format.proofs.Chains.{Follows-distinct}
use Rattle.cfb_format.proofs.Members.{Contains-cases, Contains-nil}
use Rattle.cfb_format.specs.Fat.{FollowsDifat, next_difat}
use Rattle.cfb_format.specs.declared.version.Version.{Version}

pub regular-le : (i : ℕ) → IsTrue (is_regular i) → i ≤ max_regular_sector
regular-le i h = leb-true i max_regular_sector h

pub le-regular : (i : ℕ) → i ≤ max_regular_sector → IsTrue (is_regular i)
le-regular i h = le-leb i max_regular_sector h

pub chain_of : (table : List ℕ) (s : ℕ) (list : List ℕ) → Follows table s list → IsChain table s list
chain_of table s list f = record { follows = f; distinct = Follows-distinct table s list f }

pub follows-member : (table : List ℕ) (s : ℕ) (list : List ℕ) → Follows table s list → (i : ℕ) → Contains list i → (i < length table) × IsTrue (is_regular i)
follows-member table s [] f i m = absurd (Contains-nil i m)
follows-member table s (x ∷ list) f i m = elim (Contains-cases x list i m) [
  | inl same ↦ (subst (λ k. k < length table) same f.2, subst (λ k. IsTrue (is_regular k)) same f.4)
  | inr r ↦ follows-member table (slice_index table x) list f.3 i r
]

pub value-below : (table : List ℕ) (i : ℕ) → value table i ≢ free_sector → i < length table
value-below table i ne = elim (cases_lt i (length table)) [ inl lt ↦ lt | inr ge ↦ absurd (ne (get_or_past table i free_sector ge)) ]

pub value-at : (table : List ℕ) (i : ℕ) → i < length table → value table i ≡ slice_index table i
value-at table i lt = get_or_default table i free_sector 0 lt

-- the members so far, and the next one: every chain from there is the rest of one from the start, and the other way round
pub record Walked (table : List ℕ) (start : ℕ) (done : List ℕ) (next : ℕ) : Type 0 where
  pub joins : (rest : List ℕ) → Follows table next rest → Follows table start (done ++ rest)
  pub splits : (xs : List ℕ) → Follows table start xs → (rest : List ℕ) × (xs ≡ done ++ rest) × Follows table next rest

pub walked-start : (table : List ℕ) (start : ℕ) → Walked table start [] start
walked-start table start = record { joins = λ rest f. f; splits = λ xs f. (xs, refl, f) }

pub follows-next : (table : List ℕ) (x : ℕ) (xs : List ℕ) → x ≢ end_of_chain → Follows table x xs
    → (rest : List ℕ) × (xs ≡ x ∷ rest) × (x < length table) × Follows table (slice_index table x) rest × IsTrue (is_regular x)
follows-next table x [] ne f = absurd (ne f)
follows-next table x (y ∷ ys) ne f = (
  ys,
  ap (λ z. z ∷ ys) (sym f.0),
  subst (λ k. k < length table) (sym f.0) f.2,
  subst (λ k. Follows table (slice_index table k) ys) (sym f.0) f.3,
  subst (λ k. IsTrue (is_regular k)) (sym f.0) f.4,
)

pub walked-step : (table : List ℕ) (start : ℕ) (done : List ℕ) (x : ℕ) → x ≢ end_of_chain → x < length table → x ≤ max_regular_sector
    → Walked table start done x → Walked table start (done ++ x ∷ []) (slice_index table x)
walked-step table start done x ne lt regular w = record {
  joins = λ rest f. subst (Follows table start) (sym (append_assoc done (x ∷ []) rest)) (w.joins (x ∷ rest) (refl, ne, lt, f, le-regular x regular));
  splits = λ xs f.
      let s = w.splits xs f in
      let n = follows-next table x s.0 ne s.2 in
      (n.0, s.1 ∙ ap (λ (z : List ℕ). done ++ z) n.1 ∙ sym (append_assoc done (x ∷ []) n.0), n.3);
}

pub walked-end : (table : List ℕ) (start : ℕ) (done : List ℕ) → Walked table start done end_of_chain → IsChain table start done
walked-end table start done w = chain_of table start done (subst (Follows table start) (append-nil done) (w.joins [] refl))

-- where the next is no number of the table there is no chain
pub walked-past : (table : List ℕ) (start : ℕ) (done : List ℕ) (x : ℕ) → x ≢ end_of_chain → (max_regular_sector < x) ⊎ (length table ≤ x)
    → Walked table start done x → (xs : List ℕ) → IsChain table start xs → ⊥
walked-past table start done x ne out w xs c =
    let s = w.splits xs c.follows in
    let n = follows-next table x s.0 ne s.2 in
    let le = regular-le x n.4 in
    elim out [ inl more ↦ omega (arith, more, le) | inr past ↦ omega (arith, past, n.2) ]

pub difat-whole : (v : Version) (bytes : List ℕ) (s : ℕ) (own : List ℕ) → FollowsDifat v bytes s own → (i : ℕ) → Contains own i → is_whole_sector v bytes i ≡ true
difat-whole v bytes s [] f i m = absurd (Contains-nil i m)
difat-whole v bytes s (x ∷ own) f i m = elim (Contains-cases x own i m) [
  | inl at ↦ subst (λ (k : ℕ). is_whole_sector v bytes k ≡ true) at f.2
  | inr r ↦ difat-whole v bytes (next_difat v bytes x) own f.4 i r
]
