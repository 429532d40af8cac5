use Rattle.std.proofs.Common.{◌≡◌, ◌≤◌, ◌<◌, ℕ}
use Rattle.std.specs.Char.{IsScalar}
use Rattle.cfb_format.specs.Names.{paired}
use Rattle.cfb_codecs.specs.SimpleUpper.{simple_upper}
use Rattle.cfb_codecs.proofs.unicode.unicode_pairs.Given as goal

abbrev pub invariant-loop-code : goal.invariant-loop-code
invariant-loop-code g l = ((c : ℕ) → IsScalar c → 0x80 ≤ c → c < l.code → paired l.pairs.items c ≡ simple_upper c) × ((c : ℕ) → l.code ≤ c → paired l.pairs.items c ≡ c)
