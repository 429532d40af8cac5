use Rattle.std.proofs.Common.{ℕ, List, take}
use Rattle.std.specs.Prelude.{Contains}
use Rattle.cfb_format.specs.Names.{Cases}
use Rattle.cfb_format.specs.Reading.{Reading, Reads}
use Rattle.cfb_flaws.specs.Flaws.{OwnsMembers, twice_in}
use Rattle.cfb_flaws.specs.Telling.{KnowsFile, Told}
use Rattle.cfb_flaws.proofs.streams.tell_shared_streams.Given as goal

abbrev pub invariant-loop-number : goal.invariant-loop-number
invariant-loop-number g l = (cases : Cases) (bytes : List ℕ) (r : Reading) → Reads cases bytes r → KnowsFile l.known bytes r
    → Told (twice_in l.fn.table) ((i : ℕ) → Contains (take l.number-index l.known.parts.now.streams.now) i → OwnsMembers l.fn.table r i) bytes r l.fn.found.items l.found.items
