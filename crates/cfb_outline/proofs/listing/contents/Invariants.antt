use Rattle.std.proofs.Common.{◌≡◌, ◌-◌, [], length, reverse}
use Rattle.cfb_codecs.specs.EntryModel.{entries_of}
use Rattle.cfb_outline.proofs.Filling.{Filling}
use Rattle.cfb_outline.proofs.listing.contents.Given as goal

abbrev pub invariant-loop-number : goal.invariant-loop-number
invariant-loop-number g l = record {
  filling : Filling (entries_of l.entries) l.parent (reverse l.pending.items) l.order.items;
  emptied : l.stack.items ≡ [];
}

abbrev pub decreases-loop-number : goal.decreases-loop-number
decreases-loop-number g l = length l.entries - length l.order.items
