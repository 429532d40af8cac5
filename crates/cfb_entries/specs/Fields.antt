-- The fields of an entry that a change may set: all but its name, its kind and its place in the tree (MS-CFB 2.6.1).
use Rattle.std.specs.Prelude.{ℕ, List, slice_set}
use Rattle.cfb_format.specs.DirectoryEntry.{Entry}
use Rattle.cfb_format.specs.Siblings.{entry_at}
use Rattle.cfb_entries.specs.declared.fields.Fields.{Fields}

-- the fields of an entry
abbrev pub fields_in : Entry → Fields
fields_in e = record {
  clsid = e.clsid;
  state_bits = e.state_bits;
  creation_time = e.creation_time;
  modified_time = e.modified_time;
  start_sector = e.start_sector;
  stream_len = e.stream_len;
}

-- the entry with these fields
abbrev pub entry_with_fields : Entry → Fields → Entry
entry_with_fields e f = record e {
  clsid = f.clsid;
  state_bits = f.state_bits;
  creation_time = f.creation_time;
  modified_time = f.modified_time;
  start_sector = f.start_sector;
  stream_len = f.stream_len;
}

-- the entries with these fields in the one of that number
abbrev pub entries_with_fields : List Entry → ℕ → Fields → List Entry
entries_with_fields entries number f = slice_set entries number (entry_with_fields (entry_at entries number) f)
