use Rattle.std.proofs.Common.{◌≡◌, ◌≤◌, IsTrue}
use Rattle.cfb_journal.specs.Stamp.{stamp_of, summed_over}
use Rattle.cfb_journal.proofs.stamps.stamp_in.Given as goal

abbrev pub invariant-loop-left : goal.invariant-loop-left
invariant-loop-left g l =
    record {
      inside : l.at ≤ l.len;
      sum : IsTrue g.F.ReadMedium.tells → summed_over l.left l.step l.at (g.F.ReadMedium.bytes l.fn.medium) l.sum ≡ stamp_of (g.F.ReadMedium.bytes l.fn.medium);
      same : IsTrue g.F.ReadMedium.tells → g.F.ReadMedium.bytes l.medium ≡ g.F.ReadMedium.bytes l.fn.medium;
    }

abbrev pub decreases-loop-left : goal.decreases-loop-left
decreases-loop-left g l = l.left
