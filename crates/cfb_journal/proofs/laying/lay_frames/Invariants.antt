use Rattle.cfb_journal.proofs.LaidFrames.{Laid}
use Rattle.cfb_journal.proofs.laying.lay_frames.Given as goal

abbrev pub invariant-loop-left : goal.invariant-loop-left
invariant-loop-left l = Laid l.limit l.count l.bytes l.left l.rest l.at l.fn.into l.into

abbrev pub decreases-loop-left : goal.decreases-loop-left
decreases-loop-left l = l.left
