-- Chains in a table of successors, the FAT or the MiniFAT (MS-CFB 2.3 and 2.4).
use Rattle.std.specs.Prelude.{ℕ, zero, suc, ◌≡◌, ◌≢◌, ◌<◌, List, [], ◌∷◌, length, slice_index, nat_eq, nat_lt, Option, Some, None, option_map, if◌then◌else◌, ◌==◌, ◌&&◌, IsTrue, slice_index_or}
use Rattle.std.specs.List.{IsDistinct}
use Rattle.cfb_format.specs.Bytes.{end_of_chain, free_sector, is_regular}

-- the value of a number in a table: past the end all is free
abbrev pub value : List ℕ → ℕ → ℕ
value table i = slice_index_or table i free_sector

-- from s, each member is a regular number in the table and names the next one, and the last names the end
abbrev pub Follows : List ℕ → ℕ → List ℕ → Type 0
Follows table s [] = s ≡ end_of_chain
Follows table s (i ∷ list) = (s ≡ i) × (s ≢ end_of_chain) × (i < length table) × Follows table (slice_index table i) list × IsTrue (is_regular i)

-- the list is the chain from s: empty from the end, and no member stands twice
pub record IsChain (table : List ℕ) (s : ℕ) (list : List ℕ) : Type 0 where
  pub follows : Follows table s list
  pub distinct : IsDistinct nat_eq list

-- the chain from s if it ends within this many members
unfoldable pub chain_within : List ℕ → ℕ → ℕ → Option (List ℕ)
chain_within table zero s = if s == end_of_chain then Some [] else None
chain_within table (suc more) s =
    if s == end_of_chain then Some []
    else if is_regular s && nat_lt s (length table) then option_map (λ list. s ∷ list) (chain_within table more (slice_index table s))
    else None

-- the chain from s, if there is one
abbrev pub chain_from : List ℕ → ℕ → Option (List ℕ)
chain_from table s = chain_within table (length table) s
