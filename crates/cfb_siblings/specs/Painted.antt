-- The sibling tree of a storage with its colours, as the numbered entries make it.
use Rattle.std.specs.Prelude.{◌≡◌, ℕ, ◌+◌, ◌<◌, Bool, true, false, cond, List, [], ◌∷◌, ◌++◌, length, eqb, suc}
use Rattle.cfb_format.specs.declared.color.Color.{Color}
use Rattle.cfb_format.specs.declared.color.Color.TheVariants.{Red, Black}
use Rattle.cfb_format.specs.Bytes.{no_stream}
use Rattle.cfb_format.specs.DirectoryEntry.{Entry}
use Rattle.cfb_format.specs.Siblings.{SiblingTree, leaf, node, entry_at, is_red_color}

-- the colour of a node that is red or not
abbrev pub color_if_red : Bool → Color
color_if_red true = Red
color_if_red false = Black

-- a binary tree of entry numbers: red or not, left part, number, right part
pub data Painted : Type 0 where
  Leaf : Painted
  Node : Bool → Painted → ℕ → Painted → Painted

-- what stands in the link to a tree
abbrev pub top : Painted → ℕ
top Leaf = no_stream
top (Node c a n b) = n

-- the entries below the link have this shape and these colours
abbrev pub Shape : List Entry → ℕ → Painted → Type 0
Shape es link Leaf = link ≡ no_stream
Shape es link (Node c a n b) = (link ≡ n) × (n < length es) × ((is_red_color (entry_at es n).color) ≡ c) × Shape es (entry_at es n).left_sibling a × Shape es (entry_at es n).right_sibling b

-- the tree without its colours
abbrev pub bare : Painted → SiblingTree
bare Leaf = leaf
bare (Node c a n b) = node (bare a) n (bare b)

-- the numbers in order
abbrev pub tree_numbers : Painted → List ℕ
tree_numbers Leaf = []
tree_numbers (Node c a n b) = tree_numbers a ++ n ∷ tree_numbers b

-- 1 if the numbers are the same
unfoldable pub hit : ℕ → ℕ → ℕ
hit n m = cond (eqb n m) 1 0

-- how often a number stands in a list
unfoldable pub times_in : ℕ → List ℕ → ℕ
times_in k [] = 0
times_in k (n ∷ ns) = hit k n + times_in k ns

-- how often n stands in the tree
abbrev pub occurs : ℕ → Painted → ℕ
occurs n Leaf = 0
occurs n (Node c a m b) = occurs n a + hit n m + occurs n b

-- how many entries
abbrev pub size : Painted → ℕ
size Leaf = 0
size (Node c a m b) = size a + suc (size b)
