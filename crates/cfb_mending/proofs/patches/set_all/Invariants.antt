use Rattle.std.proofs.Common.{◌≡◌, drop}
use Rattle.cfb_mending.specs.Mended.{mended_from}
use Rattle.cfb_mending.proofs.patches.set_all.Given as goal

abbrev pub invariant-loop-patch : goal.invariant-loop-patch
invariant-loop-patch l = mended_from (drop l.patch-index l.patches) l.place l.bytes ≡ mended_from l.patches l.place l.fn.bytes
