-- The sibling tree of a storage: its list of children, and its balance (MS-CFB 2.6.4).
use Rattle.std.specs.Prelude.{ℕ, ◌+◌, ◌≡◌, ◌≢◌, ◌<◌, max, List, [], ◌∷◌, ◌++◌, Bool, true, false, not, ◌&&◌, length, map, nat_eq, slice_index_or, if◌then◌else◌, ◌==◌, ⊤}
use Rattle.std.specs.List.{AllByRecursion, IsDistinct, list_all}
use Rattle.std.specs.declared.cmp.Ordering.TheVariants.{Less}
use Rattle.cfb_format.specs.declared.color.Color.{Color}
use Rattle.cfb_format.specs.declared.color.Color.TheVariants.{Red, Black}
use Rattle.cfb_format.specs.Bytes.{no_stream}
use Rattle.cfb_format.specs.Names.{Cases, name_cmp}
use Rattle.cfb_format.specs.DirectoryEntry.{Entry, unallocated_entry}

-- the entry of a number
abbrev pub entry_at : List Entry → ℕ → Entry
entry_at entries i = slice_index_or entries i unallocated_entry

-- a tree of numbers of entries
pub data SiblingTree : Type 0 where
  leaf : SiblingTree
  node : SiblingTree → ℕ → SiblingTree → SiblingTree

-- the tree is the one that hangs at this number, by the entries' left and right
abbrev pub HangsAt : List Entry → ℕ → SiblingTree → Type 0
HangsAt entries top leaf = top ≡ no_stream
HangsAt entries top (node left i right) = (top ≡ i) × (top ≢ no_stream) × (i < length entries)
    × HangsAt entries (entry_at entries i).left_sibling left
    × HangsAt entries (entry_at entries i).right_sibling right

-- the left part, the node itself, the right part
abbrev pub in_order : SiblingTree → List ℕ
in_order leaf = []
in_order (node left i right) = in_order left ++ i ∷ in_order right

-- each name is below all later ones
abbrev pub RisesByName : Cases → List Entry → List ℕ → Type 0
RisesByName cases entries [] = ⊤
RisesByName cases entries (i ∷ list) =
    AllByRecursion (λ k. name_cmp cases (entry_at entries i).name (entry_at entries k).name ≡ Less) list × RisesByName cases entries list

-- list is the siblings that hang at this number, in name order, each of them once
pub record Below (cases : Cases) (entries : List Entry) (top : ℕ) (list : List ℕ) : Type 0 where
  pub tree : SiblingTree
  pub hangs : HangsAt entries top tree
  pub is_in_order : list ≡ in_order tree
  pub distinct : IsDistinct nat_eq list
  pub rises : RisesByName cases entries list

-- ---- balance

-- the colour is red (MS-CFB 2.6.4)
abbrev pub is_red_color : Color → Bool
is_red_color Red = true
is_red_color Black = false

-- the entry of this number is red; there is none at `no_stream`
abbrev pub is_red_at : List Entry → ℕ → Bool
is_red_at entries i = if i == no_stream then false else is_red_color (entry_at entries i).color

-- the entry isn't red, or neither of the two that hang directly under it is
abbrev pub is_red_apart : List Entry → ℕ → Bool
is_red_apart entries i = not (is_red_color (entry_at entries i).color && is_red_at entries (entry_at entries i).left_sibling)
    && not (is_red_color (entry_at entries i).color && is_red_at entries (entry_at entries i).right_sibling)

-- how many black nodes there are on each way down to a missing child
abbrev pub black_counts : List Entry → SiblingTree → List ℕ
black_counts entries leaf = 0 ∷ []
black_counts entries (node left i right) =
    map (λ n. if is_red_color (entry_at entries i).color then n else n + 1) (black_counts entries left ++ black_counts entries right)

-- the greatest number of nodes on a way down
abbrev pub depth : SiblingTree → ℕ
depth leaf = 0
depth (node left i right) = max (depth left) (depth right) + 1

-- a black top, no red under a red, and the same number of black nodes on each way down
pub record Balanced (entries : List Entry) (top : ℕ) (black : ℕ) : Type 0 where
  pub tree : SiblingTree
  pub hangs : HangsAt entries top tree
  pub black_top : is_red_at entries top ≡ false
  pub red_apart : list_all (is_red_apart entries) (in_order tree) ≡ true
  pub counts : AllByRecursion (λ n. n ≡ black) (black_counts entries tree)
