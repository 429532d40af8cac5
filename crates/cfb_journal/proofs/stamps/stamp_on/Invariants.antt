use Rattle.std.proofs.Common.{◌≡◌, ◌≤◌, IsTrue, take}
use Rattle.cfb_journal.specs.Journal.{applied, frames_of}
use Rattle.cfb_journal.specs.Stamp.{stamp_of, summed_over}
use Rattle.cfb_journal.specs.States.{Looks}
use Rattle.cfb_journal.proofs.stamps.stamp_on.Given as goal

abbrev pub invariant-loop-left : goal.invariant-loop-left
invariant-loop-left g l =
    record {
      inside : l.at ≤ l.len;
      sum : IsTrue g.D.Disk.tells → let file = applied (frames_of l.count l.frames) (take l.len (g.D.Disk.view l.fn.disk).seen.file) in summed_over l.left l.step l.at file l.sum ≡ stamp_of file;
      looks : IsTrue g.D.Disk.tells → Looks (g.D.Disk.view l.fn.disk) (g.D.Disk.view l.disk);
      calm : IsTrue g.D.Disk.tells → (g.D.Disk.view l.disk).faults ≡ (g.D.Disk.view l.fn.disk).faults;
    }

abbrev pub decreases-loop-left : goal.decreases-loop-left
decreases-loop-left g l = l.left
