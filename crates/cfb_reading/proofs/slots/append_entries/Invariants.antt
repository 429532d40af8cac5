use Rattle.std.proofs.Common.{take}
use Rattle.cfb_codecs.specs.EntryModel.{entries_of}
use Rattle.cfb_reading.specs.ReadDirectory.{AppendsSlots}
use Rattle.cfb_reading.proofs.slots.append_entries.Given as goal

abbrev pub invariant-loop-slot : goal.invariant-loop-slot
invariant-loop-slot g l = AppendsSlots l.validation l.version (take l.slot-index l.slots) (entries_of l.initial.entries.items) (entries_of l.entries.items)
