use Rattle.std.proofs.Common.{◌<◌, ℕ, List}
use Rattle.cfb_format.specs.Names.{Cases}
use Rattle.cfb_format.specs.Reading.{Reading, Reads}
use Rattle.cfb_flaws.specs.Flaws.{IsLoosePair, loose_in}
use Rattle.cfb_flaws.specs.Telling.{KnowsFile, Told}
use Rattle.cfb_flaws.proofs.tables.tell_loose.Given as goal

abbrev pub invariant-loop-i : goal.invariant-loop-i
invariant-loop-i g l = (cases : Cases) (bytes : List ℕ) (r : Reading) → Reads cases bytes r → KnowsFile l.known bytes r
    → Told (loose_in l.fn.table) ((i : ℕ) → i < l.i → IsLoosePair l.fn.table r i) bytes r l.fn.found.items l.found.items
