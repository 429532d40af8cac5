use Rattle.std.proofs.Common.{◌≡◌, length}
use Rattle.cfb_format.specs.Siblings.{entry_at}
use Rattle.cfb_codecs.specs.EntryModel.{entries_of}
use Rattle.cfb_siblings.specs.Painted.{size}
use Rattle.cfb_siblings.specs.Order.{read_tree}
use Rattle.cfb_siblings.proofs.Freed.{Sunk}
use Rattle.cfb_siblings.proofs.remove.freed_slot.Given as goal

abbrev pub invariant-loop-next : goal.invariant-loop-next
invariant-loop-next g l = record {
  linked : l.next ≡ (entry_at (entries_of l.entries) l.m).right_sibling;
  sunk : Sunk (entries_of l.entries) l.n l.m;
}

abbrev pub decreases-loop-next : goal.decreases-loop-next
decreases-loop-next g l = size (read_tree (length (entries_of l.entries)) (entries_of l.entries) l.next)
