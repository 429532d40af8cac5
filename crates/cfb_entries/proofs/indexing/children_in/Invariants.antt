use Rattle.std.proofs.Common.{take}
use Rattle.cfb_codecs.specs.EntryModel.{entries_of}
use Rattle.cfb_entries.proofs.Indexed.{AreListed}
use Rattle.cfb_entries.proofs.indexing.children_in.Given as goal

abbrev pub invariant-loop-storage : goal.invariant-loop-storage
invariant-loop-storage g l = AreListed (entries_of l.list) (take l.storage-index l.storages) l.children.items
