use Rattle.std.proofs.Common.{◌≡◌, ◌-◌, ◌≤◌, length, take, IsTrue}
use Rattle.cfb_format.specs.Medium.{part}
use Rattle.cfb_copies.specs.cfb_agreement.Files.{Holds, failures_of}
use Rattle.cfb_volume.specs.Answers.{content_at}
use Rattle.cfb_copies.specs.Steps.{IsReadOnly}
use Rattle.cfb_copies.proofs.pieces.read_piece.Given as goal

abbrev pub invariant-loop-done : goal.invariant-loop-done
invariant-loop-done g l = record {
  within : l.done ≤ length l.fn.into;
  reads : IsReadOnly g.F.ReadMedium.tells l.fn.source l.source;
  calm : IsTrue g.F.ReadMedium.tells → failures_of l.source ≡ failures_of l.fn.source;
  served : IsTrue g.F.ReadMedium.tells → Holds l.fn.source → take l.done l.into ≡ part (content_at l.fn.source l.from) l.at l.done;
}

abbrev pub decreases-loop-done : goal.decreases-loop-done
decreases-loop-done g l = length l.fn.into - l.done
