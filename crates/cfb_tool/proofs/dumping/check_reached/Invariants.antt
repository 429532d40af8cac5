use Rattle.std.proofs.Common.{take}
use Rattle.std.specs.List.{All}
use Rattle.cfb_tool.specs.Dumping.{CanBeDumped}
use Rattle.cfb_tool.proofs.dumping.check_reached.Given as goal

abbrev pub invariant-loop-entry : goal.invariant-loop-entry
invariant-loop-entry g l = All CanBeDumped (take l.entry-index l.told)
