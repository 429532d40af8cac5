use Rattle.std.proofs.Common.{◌≡◌, ◌*◌, length, take}
use Rattle.cfb_sectors.specs.Sectors.{copies}
use Rattle.cfb_sectors.proofs.sector.put_copies.Given as goal

abbrev pub invariant-loop-done : goal.invariant-loop-done
invariant-loop-done l =
    record {
      end : l.end ≡ l.done * length l.piece;
      put : take l.end l.into ≡ copies l.done l.piece;
    }
