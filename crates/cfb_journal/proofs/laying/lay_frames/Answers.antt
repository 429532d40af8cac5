use Rattle.std.proofs.Common.{arith}
use Rattle.cfb_journal.proofs.LaidFrames.{laid_next}
use Rattle.cfb_journal.proofs.laying.lay_frames.Goals as goal

pub loop-left-preserved : goal.loop-left-preserved
loop-left-preserved c =
    laid_next c.args.limit c.args.count c.args.bytes.now c.loop-left.left c.loop-left.rest.now c.in-Some.frame.rest.now c.in-Some.frame.place c.in-Some.frame.bytes.now c.args.at c.args.into.now c.loop-left.into c.lay_frame.new.into
    (omega arith) c.in-Some.ensures c.loop-left.invariant c.lay_frame.ensures
