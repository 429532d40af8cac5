-- What a walk reaches, with the names that lead there.
use Rattle.std.specs.Prelude.{ℕ, List, [], ◌∷◌, ◌++◌, Bool, ◌||◌}
use Rattle.std.specs.Option.{option_map_or}
use Rattle.cfb_format.specs.declared.objtype.ObjType.TheVariants.{Storage}
use Rattle.cfb_format.specs.Names.{Cases}
use Rattle.cfb_format.specs.Path.{part_says_nothing, part_says_parent, path_of_names, child_path}
use Rattle.cfb_format.specs.Tree.{Objects, nothing, storage, stream, Tree, Object, a_storage, a_stream}
use Rattle.cfb_rules.specs.Calls.{EntryInfo}
use Rattle.cfb_rules.specs.CallReplies.{storage_entry, stream_entry, root_info}
use Rattle.cfb_rules.specs.Finding.{found_at, parent_names}

-- a walked object: the names on the way to it from the root, its own name last, and what is told of it
pub record Reached : Type 0 where
  pub names : List (List ℕ)
  pub told : EntryInfo

-- the objects of a storage that has these names and this path, with all that is in them, in the order of a walk
abbrev pub reached : List (List ℕ) → List ℕ → Objects → List Reached
reached names path nothing = []
reached names path (storage name info inside rest) =
    record { names = names ++ name ∷ []; told = storage_entry Storage 0 (child_path path name) name info }
    ∷ reached (names ++ name ∷ []) (child_path path name) inside ++ reached names path rest
reached names path (stream name info rest) =
    record { names = names ++ name ∷ []; told = stream_entry (child_path path name) name info } ∷ reached names path rest

-- an object below these names, and all that is in it
abbrev pub reached_object : List (List ℕ) → List ℕ → List ℕ → Object → List Reached
reached_object parents path name (a_storage info inside) =
    record { names = parents ++ name ∷ []; told = storage_entry Storage 0 path name info } ∷ reached (parents ++ name ∷ []) path inside
reached_object parents path name (a_stream info) = record { names = parents ++ name ∷ []; told = stream_entry path name info } ∷ []

-- the root and all that is in it
abbrev pub all_reached : ℕ → Tree → List Reached
all_reached root_len tree = record { names = []; told = root_info root_len tree } ∷ reached [] (path_of_names []) tree.objects

-- what a walk of the object at these names reaches: it starts from the asked names of the parent
abbrev pub reached_from : Cases → ℕ → Tree → List (List ℕ) → List Reached
reached_from cases root_len tree [] = all_reached root_len tree
reached_from cases root_len tree (name ∷ names) =
    option_map_or (λ found. reached_object (parent_names (name ∷ names)) (child_path (path_of_names (parent_names (name ∷ names))) found.name) found.name found.object)
    (found_at cases tree (name ∷ names)) []

-- the empty name, `.` and `..`: as a part of a path such a name does not say itself
abbrev pub is_lost_in_paths : List ℕ → Bool
is_lost_in_paths name = part_says_nothing name || part_says_parent name
