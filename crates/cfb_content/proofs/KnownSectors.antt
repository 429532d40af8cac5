-- The sectors of a chain are sectors of the FAT, and those that others come after say so there.
use Rattle.std.proofs.Common.{◌≡◌, ◌+◌, ◌<◌, ◌≤◌, ℕ, zero, suc, List, [], ◌∷◌, sym, subst, length, arith}
use Rattle.std.specs.Prelude.{slice_index}
use Rattle.std.proofs.lemmas.List.Elements.{Contains-get_or}
use Rattle.cfb_format.specs.Bytes.{max_regular_sector}
use Rattle.cfb_format.specs.Chain.{Follows, IsChain}
use Rattle.cfb_format.proofs.Walks.{regular-le}
use Rattle.cfb_tables.proofs.ChainLemmas.{members-busy}

-- as a slice of the listed ones has them
pub chain-is-known : (fat : List ℕ) (start : ℕ) (list slice : List ℕ) → IsChain fat start list → slice ≡ list → (i : ℕ) → i < length slice → slice_index slice i < length fat
chain-is-known fat start list slice chain same i lt =
    let own = subst (λ (l : List ℕ). IsChain fat start l) (sym same) chain in
    (members-busy fat start slice own (slice_index slice i) (Contains-get_or slice i 0 lt)).1

follows-goes-on : (fat : List ℕ) (s : ℕ) (list : List ℕ) → Follows fat s list → (i : ℕ) → i + 1 < length list → slice_index fat (slice_index list i) ≤ max_regular_sector
follows-goes-on fat s [] f i lt = absurd (omega (arith, lt))
follows-goes-on fat s (x ∷ []) f i lt = absurd (omega (arith, lt))
follows-goes-on fat s (x ∷ y ∷ list) f zero lt = let next = f.3.0 in let regular = regular-le y f.3.4 in omega (arith, next, regular)
follows-goes-on fat s (x ∷ y ∷ list) f (suc i) lt = follows-goes-on fat (slice_index fat x) (y ∷ list) f.3 i (omega (arith, lt))

-- a member that another one comes after points to it
pub chain-goes-on : (fat : List ℕ) (start : ℕ) (list : List ℕ) → IsChain fat start list → (i : ℕ) → i + 1 < length list
    → slice_index fat (slice_index list i) ≤ max_regular_sector
chain-goes-on fat start list chain i lt = follows-goes-on fat start list chain.follows i lt
