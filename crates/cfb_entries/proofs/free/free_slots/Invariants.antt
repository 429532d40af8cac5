use Rattle.std.proofs.Common.{◌≤◌, length}
use Rattle.cfb_codecs.specs.EntryModel.{entries_of}
use Rattle.cfb_entries.proofs.FreeSlots.{ListsFrom}
use Rattle.cfb_entries.proofs.free.free_slots.Given as goal

abbrev pub invariant-loop-left : goal.invariant-loop-left
invariant-loop-left g l = record { listed : ListsFrom (entries_of l.list) l.left l.free.items; in_list : l.left ≤ length l.list }

abbrev pub decreases-loop-left : goal.decreases-loop-left
decreases-loop-left g l = l.left
