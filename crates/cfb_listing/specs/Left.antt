-- What an iterator over entries has left.
use Rattle.std.specs.Prelude.{List}
use Rattle.std.specs.Vec.Iter.{into_iter_items}
use Rattle.cfb_rules.specs.Calls.{EntryInfo}
use Rattle.cfb_listing.specs.declared.entries.Entries.{Entries}

-- the entries that are still to come, in order
abbrev pub entries_left : {F A : Type 0} → Entries F A → List EntryInfo
entries_left e = into_iter_items e.left
