use Rattle.std.proofs.Common.{◌≡◌, ◌++◌, drop, take}
use Rattle.cfb_mending.specs.Mended.{bytes_with}
use Rattle.cfb_mending.proofs.patches.Patch.set_in.Given as goal

abbrev pub invariant-loop-index : goal.invariant-loop-index
invariant-loop-index l = l.bytes ≡ bytes_with l.self l.place (take l.index l.fn.bytes) ++ drop l.index l.fn.bytes
