use Rattle.std.proofs.Common.{◌≡◌, ℕ, List}
use Rattle.cfb_format.specs.Names.{Cases}
use Rattle.cfb_format.specs.Reading.{Reading, Reads}
use Rattle.cfb_flaws.specs.Flaws.{raw_of}
use Rattle.cfb_flaws.specs.Telling.{KnowsFile, ToldPast}
use Rattle.cfb_flaws.proofs.past.tell_past.Given as goal

abbrev pub invariant-loop-sector : goal.invariant-loop-sector
invariant-loop-sector g l = (cases : Cases) (bytes : List ℕ) (r : Reading) → Reads cases bytes r → KnowsFile l.known bytes r → l.fn.raw ≡ raw_of bytes r
    → ToldPast bytes r 0 l.sector l.fn.found.items l.found.items
