use Rattle.std.proofs.Common.{◌≡◌, ◌+◌, ◌++◌, ◌≤◌, vec_len, vec_capacity}
use Rattle.std.specs.Prelude.{replicate}
use Rattle.cfb_format.specs.DirectoryEntry.{unallocated_entry}
use Rattle.cfb_codecs.specs.EntryModel.{entries_of}
use Rattle.cfb_entries.proofs.fresh.append_fresh.Given as goal

abbrev pub invariant-loop-entry : goal.invariant-loop-entry
invariant-loop-entry g l = record {
  room : vec_len l.list + vec_len l.fresh ≤ vec_capacity l.list;
  unused : entries_of l.fresh.items ≡ replicate (vec_len l.fresh) unallocated_entry;
  moved : entries_of l.list.items ++ replicate (vec_len l.fresh) unallocated_entry ≡ entries_of l.initial.list.items ++ replicate (vec_len l.initial.fresh) unallocated_entry;
}

abbrev pub decreases-loop-entry : goal.decreases-loop-entry
decreases-loop-entry g l = vec_len l.fresh
