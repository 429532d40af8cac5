-- What stands in a folder of the system: folders and files, each by the names that lead to it.
use Rattle.std.specs.Prelude.{ℕ, ◌≡◌, ◌<◌, List, [], ◌∷◌, ◌++◌, String, All, chars, length, map, string_bytes, take}
use Rattle.cfb_text.specs.Host.{IsFileName}

-- a folder, or a file with these bytes; the last name is its own
pub data Item : Type 0 where
  a_folder : (place : List (List ℕ)) → Item
  a_file : (place : List (List ℕ)) → (content : List ℕ) → Item

-- the letters of some texts
abbrev pub texts : {A : Type 0} → List (String A) → List (List ℕ)
texts names = map (λ name. chars (string_bytes name)) names

-- some names, each of which is the name of one file in a folder and no way out of it
pub record IsPlace (place : List (List ℕ)) : Type 0 where
  pub some : 0 < length place
  pub safe : All IsFileName place

-- the file that was made last has these bytes behind its own
pub record IsLonger (bytes : List ℕ) (old new : List Item) : Type 0 where
  pub longer : (before : List Item) (place : List (List ℕ)) (content : List ℕ) → old ≡ before ++ a_file place content ∷ [] → new ≡ before ++ a_file place (content ++ bytes) ∷ []

-- it has some bytes behind its own
pub record IsLongerSo (old new : List Item) : Type 0 where
  pub bytes : List ℕ
  pub longer : IsLonger bytes old new

-- so it is with a beginning of them
pub record IsPartlyLonger (bytes : List ℕ) (old new : List Item) : Type 0 where
  pub count : ℕ
  pub longer : IsLonger (take count bytes) old new

-- the folder has what stood in it, and more behind that
pub record IsKept (old new : List Item) : Type 0 where
  pub more : List Item
  pub kept : new ≡ old ++ more
