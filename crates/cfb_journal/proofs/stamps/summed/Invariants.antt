use Rattle.std.proofs.Common.{◌≡◌, length}
use Rattle.cfb_journal.specs.Stamp.{summed}
use Rattle.cfb_journal.proofs.stamps.summed.Given as goal

abbrev pub invariant-loop-rest : goal.invariant-loop-rest
invariant-loop-rest l = summed l.total l.rest ≡ summed l.sum l.bytes

abbrev pub decreases-loop-rest : goal.decreases-loop-rest
decreases-loop-rest l = length l.rest
