use Rattle.std.proofs.Common.{ℕ, ◌<◌}
use Rattle.cfb_codecs.specs.EntryModel.{entries_of}
use Rattle.cfb_entries.proofs.Contents.{IsShortAt}
use Rattle.cfb_entries.proofs.names.have_short_names.Given as goal

abbrev pub invariant-loop-entry : goal.invariant-loop-entry
invariant-loop-entry g l = (k : ℕ) → k < l.entry-index → IsShortAt (entries_of l.list) k
