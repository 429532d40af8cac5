use Rattle.std.proofs.Common.{◌≡◌, ℕ, List, take}
use Rattle.std.specs.Prelude.{Contains}
use Rattle.cfb_format.specs.Names.{Cases}
use Rattle.cfb_format.specs.Reading.{Reading, Reads}
use Rattle.cfb_flaws.specs.declared.owner.Owner.TheVariants.{Difat}
use Rattle.cfb_flaws.specs.declared.owner.Table.TheVariants.{Fat}
use Rattle.cfb_flaws.specs.Flaws.{owner_in, twice_in}
use Rattle.cfb_flaws.specs.Owners.{meant}
use Rattle.cfb_flaws.specs.Telling.{KnowsFile, Told}
use Rattle.cfb_flaws.proofs.shared.tell_difat.Given as goal

abbrev pub invariant-loop-number : goal.invariant-loop-number
invariant-loop-number g l = (cases : Cases) (bytes : List ℕ) (r : Reading) → Reads cases bytes r → KnowsFile l.known bytes r
    → Told (twice_in Fat) ((i : ℕ) → Contains (take l.number-index l.known.parts.now.difat_sectors.now) i → owner_in Fat r i ≡ meant Difat) bytes r l.fn.found.items l.found.items
