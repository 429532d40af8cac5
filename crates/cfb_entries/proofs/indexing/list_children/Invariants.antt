use Rattle.std.proofs.Common.{◌≡◌, ◌++◌, take}
use Rattle.std.specs.Prelude.{map}
use Rattle.cfb_entries.specs.Covering.{child_at}
use Rattle.cfb_entries.proofs.indexing.list_children.Given as goal

abbrev pub invariant-loop-number : goal.invariant-loop-number
invariant-loop-number g l = l.children.items ≡ l.fn.children.items ++ map (child_at l.storage) (take l.number-index l.numbers)
