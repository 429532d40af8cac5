use Rattle.std.proofs.Common.{ap, sym}
use Rattle.cfb_shown.specs.Trees.{beside}
use Rattle.cfb_shown.proofs.tree.beside.Goals as goal

pub returns-else-is_last : goal.returns-else-is_last
unfolding lib.Utf8.encode
returns-else-is_last c = ap beside (sym c.if-is_last.false)
