-- What the list of all objects tells of the tree.
use Rattle.std.specs.Prelude.{ℕ, ◌≡◌, ◌<◌, ◌↔◌, List, true, length, map, All, Contains, MatchOption, ⊤}
use Rattle.cfb_format.specs.declared.objtype.ObjType.TheVariants.{Storage, Stream}
use Rattle.cfb_format.specs.declared.version.Version.{Version}
use Rattle.cfb_format.specs.Names.{Cases, is_valid_name}
use Rattle.cfb_format.specs.DirectoryEntry.{Entry, IsValidEntry}
use Rattle.cfb_format.specs.Siblings.{entry_at}
use Rattle.cfb_format.specs.Reading.{Outline, IsOutline, numbers}
use Rattle.cfb_format.specs.Tree.{AreWhole, IsOrdered}
use Rattle.cfb_places.specs.cfb_siblings.Children.{HasChildren}
use Rattle.cfb_listing.specs.Objects.{tree_from}
use Rattle.cfb_places.specs.declared.walk.Place.{Place}
use Rattle.cfb_places.specs.Places.{number_at, parent_at, places_of, storage_number}
use Rattle.cfb_places.specs.Parts.{StandsAtPlace, tree_parts}

-- the numbers of the list are those of the outline, in its order
abbrev pub PlacesAreTheWalk : Type 0
PlacesAreTheWalk = (o : Outline) → map (λ (p : Place). p.entry) (places_of o) ≡ numbers o

-- the object at the place is a child of the storage that its place names, and that is the root or stands before it
pub record HasParentBefore (cases : Cases) (entries : List Entry) (list : List Place) (at : ℕ) : Type 0 where
  pub before : MatchOption (parent_at list at) ⊤ (λ above. (above < at) × ((entry_at entries (number_at list above)).obj_type ≡ Storage))
  pub among : (children : List ℕ) → HasChildren cases entries (storage_number list (parent_at list at)) children → Contains children (number_at list at)

abbrev pub ParentsComeFirst : Type 0
ParentsComeFirst = (cases : Cases) (entries : List Entry) (o : Outline) → IsOutline cases entries o
    → (at : ℕ) → at < length (places_of o) → HasParentBefore cases entries (places_of o) at

-- the list is as long as that of the parts, and each part stands at its place
abbrev pub PartsStandAtPlaces : Type 0
PartsStandAtPlaces = (cases : Cases) (entries : List Entry) (content : Entry → List ℕ) (o : Outline) → IsOutline cases entries o
    → (length (tree_parts entries content o) ≡ length (places_of o))
    × ((at : ℕ) → at < length (places_of o) → StandsAtPlace cases entries content o at)

-- the names of each storage rise
abbrev pub TreeIsOrdered : Type 0
TreeIsOrdered = (cases : Cases) (entries : List Entry) (content : Entry → List ℕ) (o : Outline) → IsOutline cases entries o
    → IsOrdered cases (tree_from entries content o).objects

-- the content has as many bytes as its stream's entry says
abbrev pub IsWholeAt : List Entry → (Entry → List ℕ) → ℕ → Type 0
IsWholeAt entries content number = (entry_at entries number).obj_type ≡ Stream → length (content (entry_at entries number)) ≡ (entry_at entries number).stream_len

-- all streams of the tree can be read exactly if each that stands in the list can
abbrev pub StreamsAreWhole : Type 0
StreamsAreWhole = (cases : Cases) (entries : List Entry) (content : Entry → List ℕ) (o : Outline) → IsOutline cases entries o
    → AreWhole (tree_from entries content o).objects ↔ All (λ (p : Place). IsWholeAt entries content p.entry) (places_of o)

-- a valid entry of the list has a valid name
abbrev pub NamesAreValid : Type 0
NamesAreValid = (cases : Cases) (entries : List Entry) (o : Outline) (version : Version) (number : ℕ) → IsOutline cases entries o
    → Contains (numbers o) number → IsValidEntry version (entry_at entries number) → is_valid_name (entry_at entries number).name ≡ true
