-- What is told of an entry of a directory.
use Rattle.std.specs.Prelude.{ℕ, List}
use Rattle.cfb_format.specs.DirectoryEntry.{Entry, name_for, nil_clsid, unless_storage, unless_stream}
use Rattle.cfb_rules.specs.Calls.{EntryInfo}

-- what an object of the entry's kind has, under this path
abbrev pub entry_info : List ℕ → Entry → EntryInfo
entry_info path e = record {
  name = name_for e.obj_type e.name;
  path = path;
  obj_type = e.obj_type;
  len = unless_storage e.obj_type e.stream_len;
  clsid = unless_stream e.obj_type nil_clsid e.clsid;
  state_bits = e.state_bits;
  created = unless_stream e.obj_type 0 e.creation_time;
  modified = unless_stream e.obj_type 0 e.modified_time;
}
