use Rattle.std.proofs.Common.{◌≡◌, ◌+◌, ◌-◌, [], length, reverse}
use Rattle.std.specs.Prelude.{chars}
use Rattle.cfb_codecs.specs.EntryModel.{entries_of}
use Rattle.cfb_listing.proofs.Leaving.{Listing}
use Rattle.cfb_listing.proofs.listing.push_inside.Given as goal

abbrev pub invariant-loop-next : goal.invariant-loop-next
invariant-loop-next g l = record {
  listing : Listing l.order (entries_of l.entries) (chars l.path) l.number l.fn.list.items (reverse l.pending.items) l.list.items;
  emptied : l.stack.items ≡ [];
}

abbrev pub decreases-loop-next : goal.decreases-loop-next
decreases-loop-next g l = (length l.fn.list.items + length l.entries) - length l.list.items
