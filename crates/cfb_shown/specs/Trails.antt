-- The path of the object that a walk is at, and where those of the storages on the way end in it.
use Rattle.std.specs.Prelude.{ℕ, ◌≡◌, ◌+◌, ◌<◌, ◌≤◌, ◌⊎◌, List, [], ◌∷◌, IsUtf8, chars, length, map, slice_index_or, string_bytes, string_capacity, take, vec_capacity}
use Rattle.std.specs.Str.{encode_utf8_all}
use Rattle.cfb_shown.specs.declared.trail.Trail.{Trail}
use Rattle.cfb_shown.specs.Along.{path_below, paths_to}

-- the paths that end there
abbrev pub paths_in : (bytes ends : List ℕ) → List (List ℕ)
paths_in bytes ends = map (λ (end : ℕ). chars (take end bytes)) ends

-- those of a trail, the own one last
abbrev pub paths_of : {A : Type 0} → Trail A → List (List ℕ)
paths_of t = paths_in (string_bytes t.path) t.ends.items

-- the ends rise, and in front of each stands text
pub record AreEnds (bytes ends : List ℕ) : Type 0 where
  pub rise : (j k : ℕ) → j ≤ k → k < length ends → slice_index_or ends j 0 ≤ slice_index_or ends k 0
  pub most : (k : ℕ) → k < length ends → slice_index_or ends k 0 ≤ length bytes
  pub texts : (k : ℕ) → k < length ends → IsUtf8 (take (slice_index_or ends k 0) bytes)

abbrev pub IsTrail : {A : Type 0} → Trail A → Type 0
IsTrail t = AreEnds (string_bytes t.path) t.ends.items

-- ---- its room

-- for the bytes of a path, and for paths on the way
abbrev pub path_room : {A : Type 0} → Trail A → ℕ
path_room t = string_capacity t.path

abbrev pub level_room : {A : Type 0} → Trail A → ℕ
level_room t = vec_capacity t.ends

-- the room is no smaller
pub record KeepsRoom {A : Type 0} (old new : Trail A) : Type 0 where
  pub path : path_room old ≤ path_room new
  pub levels : level_room old ≤ level_room new

-- there is none for the way to an object of this name that lies so deep
abbrev pub LacksRoom : {A : Type 0} → (depth : ℕ) → (name : List ℕ) → Trail A → Type 0
LacksRoom depth name t = (path_room t < length (encode_utf8_all (path_below (paths_of t) depth name))) ⊎ (level_room t < depth + 2)

-- ---- its way

-- it is at the object with this path that a walk begins with
pub record Starts {A : Type 0} (path : List ℕ) (t : Trail A) : Type 0 where
  pub trail : IsTrail t
  pub paths : paths_of t ≡ path ∷ []

-- it went on to the object of this name that lies so deep, and there is room for that
pub record Goes {A : Type 0} (depth : ℕ) (name : List ℕ) (old new : Trail A) : Type 0 where
  pub trail : IsTrail new
  pub count : length new.ends.items ≡ depth + 2
  pub paths : paths_of new ≡ paths_to (paths_of old) depth name
  pub own : chars (string_bytes new.path) ≡ path_below (paths_of old) depth name
  pub bytes : length (encode_utf8_all (path_below (paths_of old) depth name)) ≤ path_room new
  pub levels : depth + 2 ≤ level_room new
  pub room : KeepsRoom old new
