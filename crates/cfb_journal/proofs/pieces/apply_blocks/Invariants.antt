use Rattle.std.proofs.Common.{length, ◌+◌, ◌*◌, ◌^◌, ◌≤◌, IsTrue}
use Rattle.cfb_journal.specs.Overlay.{contents, frames_from, AreBlocks}
use Rattle.cfb_journal.proofs.Applying.{Progress}
use Rattle.cfb_journal.proofs.pieces.apply_blocks.Given as goal

abbrev pub invariant-loop-rest : goal.invariant-loop-rest
invariant-loop-rest g l =
    record {
      few : l.place + 4096 * length l.rest ≤ 2 ^ 63;
      fits : AreBlocks l.base l.place (contents l.rest);
      honest : IsTrue g.D.Disk.tells → Progress (frames_from 0 (contents l.blocks)) (frames_from l.place (contents l.rest)) (g.D.Disk.view l.fn.disk) (g.D.Disk.view l.disk);
    }

abbrev pub decreases-loop-rest : goal.decreases-loop-rest
decreases-loop-rest g l = length l.rest
