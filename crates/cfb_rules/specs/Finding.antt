-- Finding an object by its names.
use Rattle.std.specs.Prelude.{ℕ, ◌≡◌, ◌⊎◌, List, [], ◌∷◌, true, false, Option, Some, None, option_and_then, option_map}
use Rattle.cfb_format.specs.Names.{Cases}
use Rattle.cfb_format.specs.DirectoryEntry.{root_entry_name}
use Rattle.cfb_format.specs.Tree.{Tree, Object, a_storage, a_stream, Found, is_same_name, object_named}

-- the object of that name in another object; there is nothing in a stream
abbrev pub child_named : Cases → List ℕ → Object → Option Found
child_named cases name (a_storage info inside) = object_named cases name inside
child_named cases name (a_stream info) = None

-- going down from an object by names
abbrev pub found_from : Cases → Found → List (List ℕ) → Option Found
found_from cases start [] = Some start
found_from cases start (name ∷ names) = option_and_then (λ found. found_from cases found names) (child_named cases name start.object)

-- the root under the name that its entry has
abbrev pub root_of : Tree → Found
root_of tree = record { name = root_entry_name; object = a_storage tree.root tree.objects }

-- what stands at these names, if anything
abbrev pub found_at : Cases → Tree → List (List ℕ) → Option Found
found_at cases tree names = found_from cases (root_of tree) names

-- the last of some names, and those before it
abbrev pub last_name : List (List ℕ) → List ℕ
last_name [] = []
last_name (name ∷ []) = name
last_name (name ∷ next ∷ names) = last_name (next ∷ names)

abbrev pub parent_names : List (List ℕ) → List (List ℕ)
parent_names [] = []
parent_names (name ∷ []) = []
parent_names (name ∷ next ∷ names) = name ∷ parent_names (next ∷ names)

-- the object alone
abbrev pub object_at : Cases → Tree → List (List ℕ) → Option Object
object_at cases tree names = option_map (λ found. found.object) (found_at cases tree names)

-- two lists of names part ways: before either ends they have names of different keys at one place, and of one key before it
abbrev pub PartWays : Cases → List (List ℕ) → List (List ℕ) → Type 0
PartWays cases [] others = ⊥
PartWays cases (name ∷ names) [] = ⊥
PartWays cases (name ∷ names) (other ∷ others) =
    (is_same_name cases other name ≡ false) ⊎ ((is_same_name cases other name ≡ true) × PartWays cases names others)
