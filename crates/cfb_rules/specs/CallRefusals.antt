-- What the rules refuse.
use Rattle.std.specs.Prelude.{ℕ, List, [], ◌∷◌, Bool, true, false, not, Option, Some, None, if◌then◌else◌}
use Rattle.std.specs.List.{list_all}
use Rattle.std.specs.Option.{option_map_or}
use Rattle.cfb_format.specs.Names.{Cases, is_valid_name}
use Rattle.cfb_format.specs.Path.{names_of_path}
use Rattle.cfb_rules.specs.Refusal.{Refusal, not_found, already_exists, invalid_input}
use Rattle.cfb_format.specs.Tree.{nothing, storage, stream, Tree, Object, object_named, a_storage, a_stream}
use Rattle.cfb_rules.specs.Calls.{Call, create_storage, create_storage_all, create_stream, create_new_stream, open_stream, open_read_stream, remove_storage, remove_storage_all, remove_stream, set_storage_clsid, set_state_bits, set_created_time, set_modified_time, touch, entry, read_storage, walk_storage}
use Rattle.cfb_rules.specs.Finding.{root_of, last_name, parent_names, object_at}

-- tests on an object
abbrev pub is_a_storage : Object → Bool
is_a_storage (a_storage info inside) = true
is_a_storage (a_stream info) = false

abbrev pub is_a_stream : Object → Bool
is_a_stream object = not (is_a_storage object)

-- nothing is in it
abbrev pub is_empty_storage : Object → Bool
is_empty_storage (a_storage info nothing) = true
is_empty_storage (a_storage info (storage name other inside rest)) = false
is_empty_storage (a_storage info (stream name other rest)) = false
is_empty_storage (a_stream info) = false

abbrev pub never : Object → Bool
never object = false

abbrev pub always : Object → Bool
always object = true

-- a refusal unless the test holds
abbrev pub unless : Bool → Refusal → Option Refusal
unless true refusal = None
unless false refusal = Some refusal

-- a new object needs a storage to stand in
abbrev pub parent_refusal : Option Object → Option Refusal
parent_refusal None = Some not_found
parent_refusal (Some parent) = unless (is_a_storage parent) invalid_input

-- an object that is there is in the way, unless it may stay
abbrev pub place_refusal : (Object → Bool) → Option Object → Option Object → Option Refusal
place_refusal may_stay None parent = parent_refusal parent
place_refusal may_stay (Some object) parent = unless (may_stay object) already_exists

-- creating: the last name, what is there, the parent. The root is there, and is no object that may stay
abbrev pub creation_refusal : Cases → Tree → (Object → Bool) → List (List ℕ) → Option Refusal
creation_refusal cases tree may_stay [] = Some already_exists
creation_refusal cases tree may_stay (name ∷ names) =
    if is_valid_name (last_name (name ∷ names))
    then place_refusal may_stay (object_at cases tree (name ∷ names)) (object_at cases tree (parent_names (name ∷ names)))
    else Some invalid_input

-- going down from an object, a stream is in the way; where nothing is there, all the rest can be added
abbrev pub way_refusal : Cases → Object → List (List ℕ) → Option Refusal
way_refusal cases (a_stream info) names = Some already_exists
way_refusal cases (a_storage info inside) [] = None
way_refusal cases (a_storage info inside) (name ∷ names) =
    option_map_or (λ found. way_refusal cases found.object names) (object_named cases name inside) None

-- all names are valid, and no stream is in the way
abbrev pub all_creation_refusal : Cases → Tree → List (List ℕ) → Option Refusal
all_creation_refusal cases tree names =
    if list_all is_valid_name names then way_refusal cases (root_of tree).object names else Some invalid_input

-- all other calls: something is there, and it is of the right kind
abbrev pub object_refusal : (Object → Bool) → Option Object → Option Refusal
object_refusal is_right None = Some not_found
object_refusal is_right (Some object) = unless (is_right object) invalid_input

-- the same, but not for the root
abbrev pub inner_refusal : Cases → Tree → (Object → Bool) → List (List ℕ) → Option Refusal
inner_refusal cases tree is_right [] = Some invalid_input
inner_refusal cases tree is_right (name ∷ names) = object_refusal is_right (object_at cases tree (name ∷ names))

-- a path that leaves the root is refused first
abbrev pub path_refusal : (List (List ℕ) → Option Refusal) → List ℕ → Option Refusal
path_refusal rule path = option_map_or rule (names_of_path path) (Some invalid_input)

-- what stands at these names is there, and of the right kind
abbrev pub at_names : Cases → Tree → (Object → Bool) → List ℕ → Option Refusal
at_names cases tree is_right path = path_refusal (λ names. object_refusal is_right (object_at cases tree names)) path

-- what the rules refuse of a call on a file with this tree, if anything
abbrev pub refusal_of : Cases → Tree → Call → Option Refusal
refusal_of cases tree (create_storage path moment) = path_refusal (creation_refusal cases tree never) path
refusal_of cases tree (create_storage_all path moment) = path_refusal (all_creation_refusal cases tree) path
refusal_of cases tree (create_stream path) = path_refusal (creation_refusal cases tree is_a_stream) path
refusal_of cases tree (create_new_stream path) = path_refusal (creation_refusal cases tree never) path
refusal_of cases tree (open_stream path) = at_names cases tree is_a_stream path
refusal_of cases tree (open_read_stream path) = at_names cases tree is_a_stream path
refusal_of cases tree (remove_storage path) = path_refusal (inner_refusal cases tree is_empty_storage) path
refusal_of cases tree (remove_stream path) = at_names cases tree is_a_stream path
refusal_of cases tree (set_storage_clsid path clsid) = at_names cases tree is_a_storage path
refusal_of cases tree (read_storage path) = at_names cases tree is_a_storage path
refusal_of cases tree (remove_storage_all path) = at_names cases tree always path
refusal_of cases tree (set_state_bits path bits) = at_names cases tree always path
refusal_of cases tree (set_created_time path moment) = at_names cases tree always path
refusal_of cases tree (set_modified_time path moment) = at_names cases tree always path
refusal_of cases tree (touch path moment) = at_names cases tree always path
refusal_of cases tree (entry path) = at_names cases tree always path
refusal_of cases tree (walk_storage path) = at_names cases tree always path
refusal_of cases tree call = None
