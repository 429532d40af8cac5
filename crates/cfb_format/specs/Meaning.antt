-- What bytes mean.
use Rattle.std.specs.Prelude.{ℕ, ◌≡◌, List}
use Rattle.cfb_format.specs.Names.{Cases}
use Rattle.cfb_format.specs.DirectoryEntry.{Entry}
use Rattle.cfb_format.specs.Siblings.{entry_at}
use Rattle.cfb_format.specs.Reading.{Reading, Reads, root_entry, Outline, no_more, storage_at, stream_at}
use Rattle.cfb_format.specs.Content.{readable}
use Rattle.cfb_format.specs.Tree.{StorageInfo, StreamInfo, Objects, nothing, storage, stream, Tree}

-- a storage's own fields (MS-CFB 2.6.2)
abbrev pub storage_info : Entry → StorageInfo
storage_info e = record { clsid = e.clsid; state_bits = e.state_bits; created = e.creation_time; modified = e.modified_time }

-- a stream's fields and content (MS-CFB 2.6.3)
abbrev pub stream_info : (Entry → List ℕ) → Entry → StreamInfo
stream_info content e = record { state_bits = e.state_bits; len = e.stream_len; content = content e }

-- the objects that the entries of an outline stand for, with this content of a stream's entry
unfoldable pub objects_from : List Entry → (Entry → List ℕ) → Outline → Objects
objects_from entries content no_more = nothing
objects_from entries content (storage_at i inside rest) =
    storage (entry_at entries i).name (storage_info (entry_at entries i)) (objects_from entries content inside) (objects_from entries content rest)
objects_from entries content (stream_at i rest) =
    stream (entry_at entries i).name (stream_info content (entry_at entries i)) (objects_from entries content rest)

-- the tree of a file: a stream has what can be read of it
abbrev pub tree_of : List ℕ → Reading → Tree
tree_of bytes r = record { root = storage_info (root_entry r); objects = objects_from r.entries (readable bytes r) r.outline }

-- the bytes are a compound file with this tree
pub record Means (cases : Cases) (bytes : List ℕ) (tree : Tree) : Type 0 where
  pub reading : Reading
  pub reads : Reads cases bytes reading
  pub tree_is : tree ≡ tree_of bytes reading
