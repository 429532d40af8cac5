use Rattle.std.proofs.Common.{◌≡◌, ◌*◌, ◌<◌, ℕ, get_or}
use Rattle.cfb_format.specs.Bytes.{word_at}
use Rattle.cfb_sectors.proofs.sector.get_words.Given as goal

abbrev pub invariant-loop-i : goal.invariant-loop-i
invariant-loop-i l = (k : ℕ) → k < l.i → get_or l.into k 0 ≡ word_at l.bytes (4 * k)
