use Rattle.std.proofs.Common.{length, take, ◌-◌, ◌≡◌, ◌≤◌, IsTrue}
use Rattle.cfb_format.specs.Medium.{part}
use Rattle.cfb_mending.proofs.loaded.read_whole.Given as goal

abbrev pub invariant-loop-done : goal.invariant-loop-done
invariant-loop-done g l =
    record {
      within : l.done ≤ length l.into;
      same : IsTrue g.F.ReadMedium.tells → g.F.ReadMedium.bytes l.medium ≡ g.F.ReadMedium.bytes l.fn.medium;
      served : IsTrue g.F.ReadMedium.tells → take l.done l.into ≡ part (g.F.ReadMedium.bytes l.fn.medium) l.at l.done;
    }

abbrev pub decreases-loop-done : goal.decreases-loop-done
decreases-loop-done g l = length l.initial.into - l.done
