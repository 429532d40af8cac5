use Rattle.std.proofs.Common.{◌≡◌, ◌-◌, ◌≤◌, ◌<◌}
use Rattle.cfb_tables.specs.Tables.{AreSizes, sizes_after}
use Rattle.cfb_tables.proofs.lists.Sizes.with_most.Given as goal

abbrev pub invariant-loop-left : goal.invariant-loop-left
invariant-loop-left l = record {
  are : AreSizes l.version l.sizes;
  few : l.left ≤ l.more;
  limited : (l.left < l.more) → l.sizes.sectors ≤ l.limit;
  is : l.sizes ≡ sizes_after l.version (l.more - l.left) l.fn.self;
}

abbrev pub decreases-loop-left : goal.decreases-loop-left
decreases-loop-left l = l.left
