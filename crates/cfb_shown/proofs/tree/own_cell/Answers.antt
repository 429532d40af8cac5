use Rattle.std.proofs.Common.{ap, sym}
use Rattle.cfb_shown.specs.Trees.{own_cell}
use Rattle.cfb_shown.proofs.tree.own_cell.Goals as goal

pub returns-then-is_last : goal.returns-then-is_last
unfolding lib.Utf8.encode
returns-then-is_last c = ap own_cell (sym c.if-is_last.true)

pub returns-else-is_last : goal.returns-else-is_last
unfolding lib.Utf8.encode
returns-else-is_last c = ap own_cell (sym c.if-is_last.false)
