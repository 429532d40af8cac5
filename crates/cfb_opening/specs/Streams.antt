-- Which entries are streams.
use Rattle.std.specs.Prelude.{ℕ, List, Bool, true, false}
use Rattle.cfb_format.specs.declared.objtype.ObjType.{ObjType}
use Rattle.cfb_format.specs.declared.objtype.ObjType.TheVariants.{Unallocated, Storage, Stream, Root}
use Rattle.cfb_format.specs.DirectoryEntry.{Entry}
use Rattle.cfb_format.specs.Siblings.{entry_at}
use Rattle.cfb_outline.specs.Families.{is_stream_kind}

-- the entry of that number is a stream; past the end none is
abbrev pub is_stream_at : List Entry → ℕ → Bool
is_stream_at entries i = is_stream_kind (entry_at entries i).obj_type
