use Rattle.std.proofs.Common.{take}
use Rattle.cfb_codecs.specs.EntryModel.{entries_of}
use Rattle.cfb_entries.specs.Clearing.{HasCleared}
use Rattle.cfb_entries.proofs.clearing.clear_entries.Given as goal

abbrev pub invariant-loop-number : goal.invariant-loop-number
invariant-loop-number g l = HasCleared (entries_of l.fn.list) (entries_of l.list) l.top (take l.number-index l.inside)
