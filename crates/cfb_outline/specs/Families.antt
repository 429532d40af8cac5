-- What a walk over the siblings of one storage finds.
use Rattle.std.specs.Prelude.{ℕ, ◌≡◌, List, Bool, true, false, Option, Some, None, length, ◌<◌, ◌%◌, ◌==◌, ◌&&◌, slice_index_or, ⊤}
use Rattle.std.specs.List.{AllByRecursion}
use Rattle.std.specs.Ordering.{is_lt}
use Rattle.cfb_format.specs.declared.objtype.ObjType.{ObjType}
use Rattle.cfb_format.specs.declared.objtype.ObjType.TheVariants.{Unallocated, Storage, Stream, Root}
use Rattle.cfb_format.specs.Names.{Cases, name_cmp}
use Rattle.cfb_format.specs.DirectoryEntry.{Entry}
use Rattle.cfb_format.specs.Siblings.{entry_at, Below}

-- ---- kinds of entries

-- what may be in a storage
abbrev pub is_object_kind : ObjType → Bool
is_object_kind Unallocated = false
is_object_kind Storage = true
is_object_kind Stream = true
is_object_kind Root = false

abbrev pub is_storage_kind : ObjType → Bool
is_storage_kind Unallocated = false
is_storage_kind Storage = true
is_storage_kind Stream = false
is_storage_kind Root = false

abbrev pub is_stream_kind : ObjType → Bool
is_stream_kind Unallocated = false
is_stream_kind Storage = false
is_stream_kind Stream = true
is_stream_kind Root = false

abbrev pub is_root_kind : ObjType → Bool
is_root_kind Unallocated = false
is_root_kind Storage = false
is_root_kind Stream = false
is_root_kind Root = true

-- an entry that the root may be: its length is whole mini sectors
abbrev pub is_root_entry : Entry → Bool
is_root_entry e = is_root_kind e.obj_type && e.stream_len % 64 == 0

abbrev pub AreObjects : List Entry → List ℕ → Type 0
AreObjects entries list = AllByRecursion (λ i. is_object_kind (entry_at entries i).obj_type ≡ true) list

-- ---- siblings

-- the number is marked
abbrev pub is_marked : List Bool → ℕ → Bool
is_marked marks k = slice_index_or marks k false

-- list is what hangs at top: storages and streams, none of them marked
pub record Family (cases : Cases) (entries : List Entry) (top : ℕ) (marks : List Bool) (list : List ℕ) : Type 0 where
  pub below : Below cases entries top list
  pub objects : AreObjects entries list
  pub fresh : AllByRecursion (λ k. is_marked marks k ≡ false) list

-- the name comes before that of the last one, if there is one
abbrev pub is_before_last : Cases → List Entry → ℕ → Option ℕ → Bool
is_before_last cases entries i None = true
is_before_last cases entries i (Some k) = is_lt (name_cmp cases (entry_at entries i).name (entry_at entries k).name)

-- the number is one of a place, if there is one
abbrev pub IsInside : {X : Type 0} → List X → Option ℕ → Type 0
IsInside entries None = ⊤
IsInside entries (Some k) = k < length entries
