use Rattle.std.proofs.Common.{◌≡◌, ℕ, List, length, take}
use Rattle.std.specs.Prelude.{Contains}
use Rattle.cfb_format.specs.Names.{Cases}
use Rattle.cfb_format.specs.Reading.{Reading, Reads}
use Rattle.cfb_flaws.specs.Claims.{words_in}
use Rattle.cfb_flaws.specs.Flaws.{IsWholeIn, on_whole}
use Rattle.cfb_flaws.specs.Reach.{KnowsReach}
use Rattle.cfb_flaws.specs.Telling.{KnowsFile, Told}
use Rattle.cfb_flaws.proofs.reach.tell_cut_with.Given as goal

abbrev pub invariant-loop-number : goal.invariant-loop-number
invariant-loop-number g l = record {
  seen : length l.seen ≡ length (words_in l.fn.table l.known.parts.now);
  reach : length l.reach ≡ length (words_in l.fn.table l.known.parts.now);
  known : (cases : Cases) (bytes : List ℕ) (r : Reading) → Reads cases bytes r → KnowsFile l.known bytes r → KnowsReach l.known l.fn.table l.seen l.reach;
  told : (cases : Cases) (bytes : List ℕ) (r : Reading) → Reads cases bytes r → KnowsFile l.known bytes r
      → Told on_whole ((i : ℕ) → Contains (take l.number-index l.known.parts.now.streams.now) i → IsWholeIn l.fn.table bytes r i) bytes r l.fn.found.items l.found.items;
}
