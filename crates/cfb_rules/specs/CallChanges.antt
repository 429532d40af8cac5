-- What a call makes of the tree.
use Rattle.std.specs.Prelude.{ℕ, List, [], ◌∷◌, length, Option, None, is_some, if◌then◌else◌}
use Rattle.std.specs.Option.{option_map_or}
use Rattle.cfb_format.specs.Names.{Cases}
use Rattle.cfb_format.specs.Path.{names_of_path}
use Rattle.cfb_format.specs.DirectoryEntry.{nil_clsid}
use Rattle.cfb_format.specs.Tree.{StorageInfo, StreamInfo, Objects, nothing, storage, stream, Tree, is_same_name, object_named, put_in_order, without}
use Rattle.cfb_rules.specs.Calls.{Call, create_storage, create_storage_all, create_stream, create_new_stream, open_stream, open_read_stream, remove_storage, remove_storage_all, remove_stream, set_storage_clsid, set_state_bits, set_created_time, set_modified_time, touch, flush, exists, is_stream, is_storage, root_entry, read_root_storage, walk, entry, read_storage, walk_storage}
use Rattle.cfb_rules.specs.Finding.{last_name, parent_names, object_at}

-- f of what is in the object of that name on the first level, if it is a storage
abbrev pub inside_changed : Cases → List ℕ → (Objects → Objects) → Objects → Objects
inside_changed cases name f nothing = nothing
inside_changed cases name f (storage other info inside rest) =
    if is_same_name cases name other then storage other info (f inside) rest else storage other info inside (inside_changed cases name f rest)
inside_changed cases name f (stream other info rest) =
    if is_same_name cases name other then stream other info rest else stream other info (inside_changed cases name f rest)

-- f of what is in the storage at these names
abbrev pub changed_at : Cases → (Objects → Objects) → List (List ℕ) → Objects → Objects
changed_at cases f [] objects = f objects
changed_at cases f (name ∷ names) objects = inside_changed cases name (changed_at cases f names) objects

-- the object of that name with other fields: f of a storage's, g of a stream's
abbrev pub with_fields : Cases → List ℕ → (StorageInfo → StorageInfo) → (StreamInfo → StreamInfo) → Objects → Objects
with_fields cases name f g nothing = nothing
with_fields cases name f g (storage other info inside rest) =
    if is_same_name cases name other then storage other (f info) inside rest else storage other info inside (with_fields cases name f g rest)
with_fields cases name f g (stream other info rest) =
    if is_same_name cases name other then stream other (g info) rest else stream other info (with_fields cases name f g rest)

-- a new storage has both moments as handed in
abbrev pub new_storage : ℕ → StorageInfo
new_storage moment = record { clsid = nil_clsid; state_bits = 0; created = moment; modified = moment }

-- a new stream is empty
abbrev pub new_stream : StreamInfo
new_stream = record { state_bits = 0; len = 0; content = [] }

-- a stream with this list of bytes keeps its bits
abbrev pub with_content : List ℕ → StreamInfo → StreamInfo
with_content content info = record { state_bits = info.state_bits; len = length content; content = content }

-- the tree with other objects under the same root
abbrev pub with_objects : Tree → Objects → Tree
with_objects tree objects = record { root = tree.root; objects = objects }

-- the tree with a change of what is in the storage at these names
abbrev pub tree_changed_at : Cases → (Objects → Objects) → List (List ℕ) → Tree → Tree
tree_changed_at cases f names tree = with_objects tree (changed_at cases f names tree.objects)

-- the tree with other fields of the object at these names
abbrev pub fields_changed_at : Cases → (StorageInfo → StorageInfo) → (StreamInfo → StreamInfo) → List (List ℕ) → Tree → Tree
fields_changed_at cases f g [] tree = record { root = f tree.root; objects = tree.objects }
fields_changed_at cases f g (name ∷ names) tree =
    tree_changed_at cases (with_fields cases (last_name (name ∷ names)) f g) (parent_names (name ∷ names)) tree

-- no other fields
abbrev pub same_storage : StorageInfo → StorageInfo
same_storage info = info

abbrev pub same_stream : StreamInfo → StreamInfo
same_stream info = info

-- the stream at these names with this content
abbrev pub content_changed_at : Cases → List ℕ → List (List ℕ) → Tree → Tree
content_changed_at cases content names tree = fields_changed_at cases same_storage (with_content content) names tree

-- the tree with a new object at these names
abbrev pub storage_added_at : Cases → ℕ → List (List ℕ) → Tree → Tree
storage_added_at cases moment names tree =
    tree_changed_at cases (put_in_order cases (last_name names) (storage (last_name names) (new_storage moment) nothing)) (parent_names names) tree

abbrev pub stream_added_at : Cases → List (List ℕ) → Tree → Tree
stream_added_at cases names tree =
    tree_changed_at cases (put_in_order cases (last_name names) (stream (last_name names) new_stream)) (parent_names names) tree

-- with the storages on the way that are missing
abbrev pub storages_added : Cases → ℕ → List (List ℕ) → Objects → Objects
storages_added cases moment [] objects = objects
storages_added cases moment (name ∷ names) objects =
    if is_some (object_named cases name objects) then inside_changed cases name (storages_added cases moment names) objects
    else put_in_order cases name (storage name (new_storage moment) (storages_added cases moment names nothing)) objects

-- a stream that is there keeps its name and its bits, and is emptied
abbrev pub stream_created_at : Cases → List (List ℕ) → Tree → Tree
stream_created_at cases names tree =
    if is_some (object_at cases tree names) then content_changed_at cases [] names tree else stream_added_at cases names tree

-- the tree without the object at these names; of the root, without all that is in it
abbrev pub removed_at : Cases → List (List ℕ) → Tree → Tree
removed_at cases [] tree = with_objects tree nothing
removed_at cases (name ∷ names) tree =
    tree_changed_at cases (without cases (last_name (name ∷ names))) (parent_names (name ∷ names)) tree

-- `touch` doesn't change the root
abbrev pub touched_at : Cases → ℕ → List (List ℕ) → Tree → Tree
touched_at cases moment [] tree = tree
touched_at cases moment (name ∷ names) tree =
    fields_changed_at cases (λ info. record info { modified = moment }) same_stream (name ∷ names) tree

-- the tree after a change of what the names of a path stand for
abbrev pub at_path : (List (List ℕ) → Tree → Tree) → List ℕ → Tree → Tree
at_path change path tree = option_map_or (λ names. change names tree) (names_of_path path) tree

-- the names at which a call changes the tree, if it changes it
abbrev pub changed_names : Call → Option (List (List ℕ))
changed_names (create_storage path moment) = names_of_path path
changed_names (create_storage_all path moment) = names_of_path path
changed_names (create_stream path) = names_of_path path
changed_names (create_new_stream path) = names_of_path path
changed_names (open_stream path) = None
changed_names (open_read_stream path) = None
changed_names (remove_storage path) = names_of_path path
changed_names (remove_storage_all path) = names_of_path path
changed_names (remove_stream path) = names_of_path path
changed_names (set_storage_clsid path clsid) = names_of_path path
changed_names (set_state_bits path bits) = names_of_path path
changed_names (set_created_time path moment) = names_of_path path
changed_names (set_modified_time path moment) = names_of_path path
changed_names (touch path moment) = names_of_path path
changed_names flush = None
changed_names (exists path) = None
changed_names (is_stream path) = None
changed_names (is_storage path) = None
changed_names root_entry = None
changed_names read_root_storage = None
changed_names walk = None
changed_names (entry path) = None
changed_names (read_storage path) = None
changed_names (walk_storage path) = None

-- the tree after a call that isn't refused
abbrev pub tree_after : Cases → Call → Tree → Tree
tree_after cases (create_storage path moment) tree = at_path (storage_added_at cases moment) path tree
tree_after cases (create_storage_all path moment) tree = at_path (λ names before. with_objects before (storages_added cases moment names before.objects)) path tree
tree_after cases (create_stream path) tree = at_path (stream_created_at cases) path tree
tree_after cases (create_new_stream path) tree = at_path (stream_added_at cases) path tree
tree_after cases (remove_storage path) tree = at_path (removed_at cases) path tree
tree_after cases (remove_storage_all path) tree = at_path (removed_at cases) path tree
tree_after cases (remove_stream path) tree = at_path (removed_at cases) path tree
tree_after cases (set_storage_clsid path clsid) tree = at_path (fields_changed_at cases (λ info. record info { clsid = clsid }) same_stream) path tree
tree_after cases (set_state_bits path bits) tree =
    at_path (fields_changed_at cases (λ info. record info { state_bits = bits }) (λ info. record info { state_bits = bits })) path tree
tree_after cases (set_created_time path moment) tree = at_path (fields_changed_at cases (λ info. record info { created = moment }) same_stream) path tree
tree_after cases (set_modified_time path moment) tree = at_path (fields_changed_at cases (λ info. record info { modified = moment }) same_stream) path tree
tree_after cases (touch path moment) tree = at_path (touched_at cases moment) path tree
tree_after cases call tree = tree
