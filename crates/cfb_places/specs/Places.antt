-- The objects of a directory in the order of a walk, each with the place of the storage that it is in.
use Rattle.std.specs.Prelude.{ℕ, ◌+◌, List, [], ◌∷◌, ◌++◌, length, Option, Some, None, slice_index_or}
use Rattle.cfb_format.specs.Reading.{Outline, no_more, storage_at, stream_at, numbers}
use Rattle.cfb_places.specs.declared.walk.Place.{Place}

-- the object of this number, in the storage at this place of the list; none is the root
abbrev pub placed_in : Option ℕ → ℕ → Place
placed_in parent number = record { entry = number; parent = parent }

-- the objects of the storage at this place, a storage before what is in it, behind `count` others of the list
abbrev pub places_in : ℕ → Option ℕ → Outline → List Place
places_in count parent no_more = []
places_in count parent (storage_at i inside rest) =
    placed_in parent i ∷ places_in (count + 1) (Some count) inside ++ places_in (count + 1 + length (numbers inside)) parent rest
places_in count parent (stream_at i rest) = placed_in parent i ∷ places_in (count + 1) parent rest

-- all objects but the root
abbrev pub places_of : Outline → List Place
places_of o = places_in 0 None o

-- the number of the entry at a place
abbrev pub number_at : List Place → ℕ → ℕ
number_at list at = (slice_index_or list at (placed_in None 0)).entry

-- the place of the storage that it is in, or none for the root
abbrev pub parent_at : List Place → ℕ → Option ℕ
parent_at list at = (slice_index_or list at (placed_in None 0)).parent

-- the number of the storage at this place, or of the root
abbrev pub storage_number : List Place → Option ℕ → ℕ
storage_number list None = 0
storage_number list (Some at) = number_at list at
