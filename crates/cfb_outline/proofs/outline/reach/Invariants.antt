use Rattle.std.proofs.Common.{◌≡◌, ◌-◌, ℕ, List, [], length, reverse}
use Rattle.cfb_format.specs.Siblings.{entry_at, Below}
use Rattle.cfb_codecs.specs.EntryModel.{entries_of}
use Rattle.cfb_outline.proofs.Reaching.{Reached}
use Rattle.cfb_outline.proofs.outline.reach.Given as goal

abbrev pub invariant-loop-number : goal.invariant-loop-number
invariant-loop-number g l = record {
  tops : List ℕ;
  below : Below l.cases (entries_of l.entries) (entry_at (entries_of l.entries) 0).child tops;
  reached : Reached l.cases (entries_of l.entries) tops (reverse l.pending.items) l.order.items l.seen.items;
  emptied : l.stack.items ≡ [];
}

abbrev pub decreases-loop-number : goal.decreases-loop-number
decreases-loop-number g l = length l.entries - length l.order.items
