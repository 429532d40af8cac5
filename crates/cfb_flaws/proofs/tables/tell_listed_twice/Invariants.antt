use Rattle.std.proofs.Common.{ℕ, List, length, take}
use Rattle.std.specs.Prelude.{nat_eq}
use Rattle.std.specs.List.{IsDistinct}
use Rattle.cfb_format.specs.Names.{Cases}
use Rattle.cfb_format.specs.Reading.{Reading, Reads}
use Rattle.cfb_flaws.specs.Flaws.{on_sectors}
use Rattle.cfb_flaws.specs.Telling.{KnowsFile, Told}
use Rattle.cfb_flaws.proofs.Counting.{AreListed}
use Rattle.cfb_flaws.proofs.tables.tell_listed_twice.Given as goal

abbrev pub invariant-loop-number : goal.invariant-loop-number
invariant-loop-number g l = record {
  listed : AreListed (take l.number-index l.known.parts.now.fat_sectors.now) l.listed (length l.known.parts.now.fat.now);
  told : (cases : Cases) (bytes : List ℕ) (r : Reading) → Reads cases bytes r → KnowsFile l.known bytes r
      → Told on_sectors (IsDistinct nat_eq (take l.number-index l.known.parts.now.fat_sectors.now)) bytes r l.fn.found.items l.found.items;
}
