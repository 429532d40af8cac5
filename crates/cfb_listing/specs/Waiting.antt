-- What is still to be listed.
use Rattle.std.specs.Prelude.{ℕ, List, [], Bool, false, Option, Some, None, slice_index_or}
use Rattle.cfb_format.specs.declared.objtype.ObjType.{ObjType}
use Rattle.cfb_format.specs.DirectoryEntry.{unallocated_entry}
use Rattle.cfb_outline.specs.Families.{is_storage_kind}
use Rattle.cfb_rules.specs.Calls.{EntryInfo}
use Rattle.cfb_listing.specs.declared.listing.EntriesOrder.{EntriesOrder}
use Rattle.cfb_listing.specs.declared.listing.EntriesOrder.TheVariants.{Nonrecursive, Preorder}
use Rattle.cfb_listing.specs.declared.listing.Waiting.{Waiting}
use Rattle.cfb_listing.specs.Told.{entry_info}

-- the object of this number waits, in the storage at this place of the list
abbrev pub waits_in : Option ℕ → ℕ → Waiting
waits_in parent number = record { number = number; parent = parent }

-- the path of the storage at this place of the list, or the one that was asked
abbrev pub path_at : List ℕ → List EntryInfo → Option ℕ → List ℕ
path_at asked list None = asked
path_at asked list (Some k) = (slice_index_or list k (entry_info [] unallocated_entry)).path

-- what is in an object of this kind is listed after it
abbrev pub is_entered : EntriesOrder → ObjType → Bool
is_entered Nonrecursive kind = false
is_entered Preorder kind = is_storage_kind kind
