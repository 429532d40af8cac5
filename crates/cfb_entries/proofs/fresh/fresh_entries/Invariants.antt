use Rattle.std.proofs.Common.{◌≡◌, ◌≤◌, vec_len, vec_capacity}
use Rattle.std.specs.Prelude.{replicate}
use Rattle.cfb_format.specs.DirectoryEntry.{unallocated_entry}
use Rattle.cfb_codecs.specs.EntryModel.{entries_of}
use Rattle.cfb_entries.proofs.fresh.fresh_entries.Given as goal

abbrev pub invariant-loop-turn : goal.invariant-loop-turn
invariant-loop-turn g l = record {
  made : entries_of l.list.items ≡ replicate l.turn unallocated_entry;
  count : vec_len l.list ≡ l.turn;
  room : l.count ≤ vec_capacity l.list;
}
