-- What is listed of a directory: the objects of a storage, or an object and all that is in it.
use Rattle.std.specs.Prelude.{ℕ, ◌≡◌, List, ◌∷◌}
use Rattle.cfb_format.specs.declared.objtype.ObjType.TheVariants.{Storage, Stream, Root}
use Rattle.cfb_format.specs.Names.{Cases}
use Rattle.cfb_format.specs.DirectoryEntry.{Entry, root_entry_name}
use Rattle.cfb_format.specs.Siblings.{entry_at}
use Rattle.cfb_format.specs.Reading.{Outline}
use Rattle.cfb_format.specs.Tree.{Objects, a_storage, a_stream}
use Rattle.cfb_format.specs.Meaning.{storage_info, stream_info, objects_from}
use Rattle.cfb_outline.specs.Outlines.{HasInside}
use Rattle.cfb_rules.specs.Calls.{EntryInfo}
use Rattle.cfb_rules.specs.CallReplies.{storage_entry, listed, walked, walked_object}
use Rattle.cfb_listing.specs.declared.listing.EntriesOrder.{EntriesOrder}
use Rattle.cfb_listing.specs.declared.listing.EntriesOrder.TheVariants.{Nonrecursive, Preorder}

-- what is in a storage with this path, in this order
abbrev pub listed_by : EntriesOrder → List ℕ → Objects → List EntryInfo
listed_by Nonrecursive path objects = listed path objects
listed_by Preorder path objects = walked path objects

-- so much holds of the objects in the entry k, whatever the streams among them hold
abbrev pub OfInside : List Entry → ℕ → (Objects → Type 0) → Type 0
OfInside entries k holds_of = (cases : Cases) (inside : Outline) (content : Entry → List ℕ) → HasInside cases entries k inside → holds_of (objects_from entries content inside)

-- the list has what is in the storage k, in this order
abbrev pub ListsInside : EntriesOrder → List Entry → List ℕ → ℕ → List EntryInfo → Type 0
ListsInside order entries path k list = OfInside entries k (λ objects. list ≡ listed_by order path objects)

-- the list has the objects of the storage k on the first level
abbrev pub ListsStorage : List Entry → List ℕ → ℕ → List EntryInfo → Type 0
ListsStorage entries path k list = OfInside entries k (λ objects. list ≡ listed path objects)

-- the list has the object k with this path and then, if it is a storage or the root, all that is in it
pub record Walks (entries : List Entry) (path : List ℕ) (k : ℕ) (list : List EntryInfo) : Type 0 where
  pub storage : (entry_at entries k).obj_type ≡ Storage
      → OfInside entries k (λ objects. list ≡ walked_object path (entry_at entries k).name (a_storage (storage_info (entry_at entries k)) objects))
  pub stream : (entry_at entries k).obj_type ≡ Stream
      → (content : Entry → List ℕ) → list ≡ walked_object path (entry_at entries k).name (a_stream (stream_info content (entry_at entries k)))
  -- with the path `/` this is `all_walked`
  pub root : (entry_at entries k).obj_type ≡ Root
      → OfInside entries k (λ objects. list ≡ storage_entry Root (entry_at entries k).stream_len path root_entry_name (storage_info (entry_at entries k)) ∷ walked path objects)
