use Rattle.std.proofs.Common.{take}
use Rattle.cfb_flaws.specs.Flaws.{NoneOn, on_whole}
use Rattle.cfb_tool.proofs.cuts.first_cut.Given as goal

abbrev pub invariant-loop-flaw : goal.invariant-loop-flaw
invariant-loop-flaw l = NoneOn on_whole (take l.flaw-index l.flaws)
