use Rattle.std.proofs.Common.{length, take, ◌-◌, ◌≡◌, ◌≤◌, ◌<◌, IsTrue}
use Rattle.cfb_format.specs.Medium.{written, ChangesOnlyBytes}
use Rattle.cfb_format.proofs.transfer.write_all_at.Given as goal

abbrev pub invariant-loop-done : goal.invariant-loop-done
invariant-loop-done g l =
    record {
      within : l.done ≤ length l.from;
      untouched : IsTrue g.F.ReadMedium.tells → l.done ≡ 0 → g.F.ReadMedium.bytes l.medium ≡ g.F.ReadMedium.bytes l.fn.medium;
      put : IsTrue g.F.ReadMedium.tells → 0 < l.done → g.F.ReadMedium.bytes l.medium ≡ written (g.F.ReadMedium.bytes l.fn.medium) l.at (take l.done l.from);
      others : IsTrue g.F.ReadMedium.tells → ChangesOnlyBytes l.at (length l.from) (g.F.ReadMedium.bytes l.fn.medium) (g.F.ReadMedium.bytes l.medium);
      calm : IsTrue g.F.ReadMedium.tells → g.F.ReadMedium.failures l.medium ≡ g.F.ReadMedium.failures l.fn.medium;
    }

abbrev pub decreases-loop-done : goal.decreases-loop-done
decreases-loop-done g l = length l.from - l.done
