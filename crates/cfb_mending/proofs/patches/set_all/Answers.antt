use Rattle.std.proofs.Common.{arith}
use Rattle.cfb_mending.specs.Mended.{mended_from}
use Rattle.cfb_mending.proofs.Patching.{all-patches, next-patch}
use Rattle.cfb_mending.proofs.patches.set_all.Goals as goal

pub loop-patch-preserved : goal.loop-patch-preserved
loop-patch-preserved c = next-patch c.args.patches.now c.args.place c.loop-patch.patch-index _ c.loop-patch.bytes c.set_in.new.bytes (mended_from c.args.patches.now c.args.place c.args.bytes.now)
    c.loop-patch-test.true c.loop-patch.invariant c.set_in.ensures

pub returns : goal.returns
returns c = all-patches c.args.patches.now c.args.place c.loop-patch.patch-index c.loop-patch.bytes (mended_from c.args.patches.now c.args.place c.args.bytes.now)
    (omega (arith, c.loop-patch-test.false)) c.loop-patch.invariant
