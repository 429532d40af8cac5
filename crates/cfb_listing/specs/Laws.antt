-- Laws of listings.
use Rattle.std.specs.Prelude.{ℕ, ◌≡◌, List, []}
use Rattle.cfb_format.specs.declared.objtype.ObjType.TheVariants.{Storage, Stream, Root}
use Rattle.cfb_format.specs.DirectoryEntry.{Entry}
use Rattle.cfb_format.specs.Path.{path_of_names}
use Rattle.cfb_format.specs.Reading.{Outline}
use Rattle.cfb_format.specs.Tree.{StorageInfo, Objects, a_storage, a_stream}
use Rattle.cfb_format.specs.Meaning.{storage_info, stream_info, objects_from}
use Rattle.cfb_rules.specs.CallReplies.{storage_entry, stream_entry, root_info, listed, walked, walked_object}
use Rattle.cfb_listing.specs.Told.{entry_info}

-- what is told of an entry is what the rules tell of the object that it stands for
abbrev pub StorageIsTold : Type 0
StorageIsTold = (path : List ℕ) (e : Entry) → e.obj_type ≡ Storage → entry_info path e ≡ storage_entry Storage 0 path e.name (storage_info e)

abbrev pub StreamIsTold : Type 0
StreamIsTold = (path : List ℕ) (e : Entry) (content : Entry → List ℕ) → e.obj_type ≡ Stream → entry_info path e ≡ stream_entry path e.name (stream_info content e)

abbrev pub RootIsTold : Type 0
RootIsTold = (e : Entry) (objects : Objects) → e.obj_type ≡ Root
    → entry_info (path_of_names []) e ≡ root_info e.stream_len (record { root = storage_info e; objects = objects })

-- what is listed is the same whatever the streams hold
abbrev pub ListedIgnoresContent : Type 0
ListedIgnoresContent = (entries : List Entry) (a b : Entry → List ℕ) (o : Outline) (path : List ℕ)
    → listed path (objects_from entries a o) ≡ listed path (objects_from entries b o)

abbrev pub WalkedIgnoresContent : Type 0
WalkedIgnoresContent = (entries : List Entry) (a b : Entry → List ℕ) (o : Outline) (path : List ℕ)
    → walked path (objects_from entries a o) ≡ walked path (objects_from entries b o)

abbrev pub StorageWalkIgnoresContent : Type 0
StorageWalkIgnoresContent = (entries : List Entry) (a b : Entry → List ℕ) (o : Outline) (path name : List ℕ) (info : StorageInfo)
    → walked_object path name (a_storage info (objects_from entries a o)) ≡ walked_object path name (a_storage info (objects_from entries b o))

abbrev pub StreamWalkIgnoresContent : Type 0
StreamWalkIgnoresContent = (a b : Entry → List ℕ) (e : Entry) (path name : List ℕ)
    → walked_object path name (a_stream (stream_info a e)) ≡ walked_object path name (a_stream (stream_info b e))
