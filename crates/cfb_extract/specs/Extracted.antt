-- What is made of a tree in a folder.
use Rattle.std.specs.Prelude.{ℕ, ◌==◌, List, [], ◌∷◌, ◌++◌, length, map, if◌then◌else◌}
use Rattle.cfb_text.specs.Host.{host_name}
use Rattle.cfb_format.specs.Path.{slashed as path_slashed}
use Rattle.cfb_format.specs.Tree.{Object, Objects, StreamInfo, a_storage, a_stream, nothing, storage, stream}
use Rattle.cfb_extract.specs.Items.{Item, a_file, a_folder}

-- the place in the folder of the object that these names lead to
abbrev pub place_of : List (List ℕ) → List (List ℕ)
place_of names = map host_name names

-- the names, each behind a `/`
abbrev pub slashed : List (List ℕ) → List ℕ
slashed names = path_slashed names

-- a stream that cannot be read to its end: where it stands, how many bytes can be read, and its length
pub record CutInfo : Type 0 where
  pub path : List ℕ
  pub got : ℕ
  pub len : ℕ

-- ---- of a tree

-- what is in a storage: a folder for each storage, before what is in it, and for each stream a file with the bytes of it that can be read
abbrev pub items_of : (above : List (List ℕ)) → Objects → List Item
items_of above nothing = []
items_of above (storage name info inside rest) = a_folder (place_of (above ++ name ∷ [])) ∷ items_of (above ++ name ∷ []) inside ++ items_of above rest
items_of above (stream name info rest) = a_file (place_of (above ++ name ∷ [])) info.content ∷ items_of above rest

-- the stream at these names is one of those
abbrev pub cuts_at : List (List ℕ) → StreamInfo → List CutInfo
cuts_at names info = if length info.content == info.len then [] else record { path = slashed names; got = length info.content; len = info.len } ∷ []

abbrev pub cuts_of : (above : List (List ℕ)) → Objects → List CutInfo
cuts_of above nothing = []
cuts_of above (storage name info inside rest) = cuts_of (above ++ name ∷ []) inside ++ cuts_of above rest
cuts_of above (stream name info rest) = cuts_at (above ++ name ∷ []) info ++ cuts_of above rest

-- of a storage what is in it, and of a stream one file
abbrev pub items_of_object : List ℕ → Object → List Item
items_of_object name (a_storage info inside) = items_of [] inside
items_of_object name (a_stream info) = a_file (place_of (name ∷ [])) info.content ∷ []

abbrev pub cuts_of_object : List ℕ → Object → List CutInfo
cuts_of_object name (a_storage info inside) = cuts_of [] inside
cuts_of_object name (a_stream info) = cuts_at (name ∷ []) info
