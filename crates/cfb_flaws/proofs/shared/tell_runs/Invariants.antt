use Rattle.std.proofs.Common.{◌≡◌, ◌≢◌, ℕ, List}
use Rattle.cfb_format.specs.Bytes.{end_of_chain}
use Rattle.cfb_format.specs.Names.{Cases}
use Rattle.cfb_format.specs.Reading.{Reading, Reads}
use Rattle.cfb_flaws.specs.Claims.{words_of}
use Rattle.cfb_flaws.specs.Flaws.{HasAll, twice_in}
use Rattle.cfb_flaws.specs.Owners.{owner_at}
use Rattle.cfb_flaws.specs.Searches.{IsWithin}
use Rattle.cfb_flaws.specs.Telling.{KnowsFile, Told, owners_of}
use Rattle.cfb_flaws.proofs.shared.tell_runs.Given as goal

abbrev pub invariant-loop-step : goal.invariant-loop-step
invariant-loop-step g l = (cases : Cases) (bytes : List ℕ) (r : Reading) (list : List ℕ) → Reads cases bytes r → KnowsFile l.known bytes r
    → HasAll l.fn.table r l.fn.owner list → IsWithin (words_of l.fn.table r) list l.next → l.next ≢ end_of_chain
    → owner_at (owners_of l.fn.table l.known) l.next ≢ l.fn.owner
    → Told (twice_in l.fn.table) ⊥ bytes r l.fn.found.items l.found.items × IsWithin (words_of l.fn.table r) list l.last × (l.last ≢ end_of_chain)
