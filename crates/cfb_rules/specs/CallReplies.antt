-- What a call that isn't refused answers.
use Rattle.std.specs.Prelude.{ℕ, List, [], ◌∷◌, ◌++◌, Bool, false, option_and_then}
use Rattle.std.specs.Option.{option_map_or}
use Rattle.cfb_format.specs.declared.objtype.ObjType.{ObjType}
use Rattle.cfb_format.specs.declared.objtype.ObjType.TheVariants.{Storage, Stream, Root}
use Rattle.cfb_format.specs.Names.{Cases}
use Rattle.cfb_format.specs.Path.{names_of_path, path_of_names, child_path}
use Rattle.cfb_format.specs.DirectoryEntry.{nil_clsid, root_entry_name}
use Rattle.cfb_rules.specs.Refusal.{not_found, invalid_input}
use Rattle.cfb_format.specs.Tree.{StorageInfo, StreamInfo, Objects, nothing, storage, stream, Tree, Object, a_storage, a_stream}
use Rattle.cfb_rules.specs.Calls.{Call, EntryInfo, Reply, exists, is_stream, is_storage, root_entry, read_root_storage, walk, entry, read_storage, walk_storage, done, flag, one_entry, entries, refused}
use Rattle.cfb_rules.specs.Finding.{found_at, parent_names, object_at}
use Rattle.cfb_rules.specs.CallRefusals.{is_a_storage, is_a_stream, always}

-- what is told of a storage
abbrev pub storage_entry : ObjType → ℕ → List ℕ → List ℕ → StorageInfo → EntryInfo
storage_entry obj_type len path name info = record {
  name = name;
  path = path;
  obj_type = obj_type;
  len = len;
  clsid = info.clsid;
  state_bits = info.state_bits;
  created = info.created;
  modified = info.modified;
}

-- and of a stream, which has no class id and no moments
abbrev pub stream_entry : List ℕ → List ℕ → StreamInfo → EntryInfo
stream_entry path name info = record {
  name = name;
  path = path;
  obj_type = Stream;
  len = info.len;
  clsid = nil_clsid;
  state_bits = info.state_bits;
  created = 0;
  modified = 0;
}

-- the root's length is that of the mini stream, which is no part of the tree
abbrev pub root_info : ℕ → Tree → EntryInfo
root_info root_len tree = storage_entry Root root_len (path_of_names []) root_entry_name tree.root

-- what is told of an object
abbrev pub object_entry : List ℕ → List ℕ → Object → EntryInfo
object_entry path name (a_storage info inside) = storage_entry Storage 0 path name info
object_entry path name (a_stream info) = stream_entry path name info

-- the objects of a storage with this path, in name order
abbrev pub listed : List ℕ → Objects → List EntryInfo
listed path nothing = []
listed path (storage name info inside rest) = storage_entry Storage 0 (child_path path name) name info ∷ listed path rest
listed path (stream name info rest) = stream_entry (child_path path name) name info ∷ listed path rest

-- and with all that is in them, a storage before what is in it
abbrev pub walked : List ℕ → Objects → List EntryInfo
walked path nothing = []
walked path (storage name info inside rest) =
    storage_entry Storage 0 (child_path path name) name info ∷ walked (child_path path name) inside ++ walked path rest
walked path (stream name info rest) = stream_entry (child_path path name) name info ∷ walked path rest

-- an object and all that is in it
abbrev pub walked_object : List ℕ → List ℕ → Object → List EntryInfo
walked_object path name (a_storage info inside) = storage_entry Storage 0 path name info ∷ walked path inside
walked_object path name (a_stream info) = stream_entry path name info ∷ []

-- what is in it on the first level
abbrev pub listed_object : List ℕ → Object → List EntryInfo
listed_object path (a_storage info inside) = listed path inside
listed_object path (a_stream info) = []

-- the root and all that is in it
abbrev pub all_walked : ℕ → Tree → List EntryInfo
all_walked root_len tree = root_info root_len tree ∷ walked (path_of_names []) tree.objects

-- one entry has the asked names in its path, and its stored name
abbrev pub entry_reply : Cases → ℕ → Tree → List (List ℕ) → Reply
entry_reply cases root_len tree [] = one_entry (root_info root_len tree)
entry_reply cases root_len tree (name ∷ names) =
    option_map_or (λ found. one_entry (object_entry (path_of_names (name ∷ names)) found.name found.object))
    (found_at cases tree (name ∷ names)) (refused not_found)

-- a storage's list starts from its asked names, a walk from the asked names of the parent
abbrev pub read_reply : Cases → Tree → List (List ℕ) → Reply
read_reply cases tree names =
    option_map_or (λ found. entries (listed_object (path_of_names names) found.object)) (found_at cases tree names) (refused not_found)

abbrev pub walk_reply : Cases → ℕ → Tree → List (List ℕ) → Reply
walk_reply cases root_len tree [] = entries (all_walked root_len tree)
walk_reply cases root_len tree (name ∷ names) =
    option_map_or (λ found. entries (walked_object (child_path (path_of_names (parent_names (name ∷ names))) found.name) found.name found.object))
    (found_at cases tree (name ∷ names)) (refused not_found)

-- something is at this path, and the test holds of it
abbrev pub has_object : Cases → Tree → (Object → Bool) → List ℕ → Bool
has_object cases tree test path =
    option_map_or test (option_and_then (object_at cases tree) (names_of_path path)) false

-- the reply for the names of a path
abbrev pub path_reply : (List (List ℕ) → Reply) → List ℕ → Reply
path_reply rule path = option_map_or rule (names_of_path path) (refused invalid_input)

-- what a call that isn't refused answers; root_len is the length of entry 0
abbrev pub reply_of : Cases → ℕ → Tree → Call → Reply
reply_of cases root_len tree (exists path) = flag (has_object cases tree always path)
reply_of cases root_len tree (is_stream path) = flag (has_object cases tree is_a_stream path)
reply_of cases root_len tree (is_storage path) = flag (has_object cases tree is_a_storage path)
reply_of cases root_len tree root_entry = one_entry (root_info root_len tree)
reply_of cases root_len tree read_root_storage = entries (listed (path_of_names []) tree.objects)
reply_of cases root_len tree walk = entries (all_walked root_len tree)
reply_of cases root_len tree (entry path) = path_reply (entry_reply cases root_len tree) path
reply_of cases root_len tree (read_storage path) = path_reply (read_reply cases tree) path
reply_of cases root_len tree (walk_storage path) = path_reply (walk_reply cases root_len tree) path
reply_of cases root_len tree call = done
