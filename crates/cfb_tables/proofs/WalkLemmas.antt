-- A walk along a chain.
use Rattle.std.proofs.Common.{◌≡◌, ◌≢◌, ℕ, ◌≤◌, List, [], ◌∷◌, ◌++◌, length, refl, ap, arith}
use Rattle.std.proofs.lemmas.List.{length-append}
use Rattle.cfb_format.specs.Bytes.{end_of_chain}
use Rattle.cfb_format.specs.Chain.{IsChain}
use Rattle.cfb_format.proofs.Chains.{Follows-length}
use Rattle.cfb_format.proofs.Walks.{Walked, follows-next}

-- nor where the walk has met as many members as the table has numbers
pub walked-long : (table : List ℕ) (start : ℕ) (done : List ℕ) (x : ℕ) → x ≢ end_of_chain → length table ≤ length done
    → Walked table start done x → (xs : List ℕ) → IsChain table start xs → ⊥
walked-long table start done x ne long w xs c =
    let s = w.splits xs c.follows in
    let n = follows-next table x s.0 ne s.2 in
    let whole : length xs ≡ length (done ++ s.0) = ap length s.1 in
    let more : length s.0 ≡ length (x ∷ n.0) = ap length n.1 in
    let most = Follows-length table start xs c.follows in
    let both = length-append done s.0 in
    omega (arith, whole, more, most, both, long)

pub no_members : (table : List ℕ) (start : ℕ) (xs : List ℕ) → start ≡ end_of_chain → IsChain table start xs → xs ≡ []
no_members table start [] is c = refl
no_members table start (x ∷ xs) is c = absurd (c.follows.1 is)
