use Rattle.std.proofs.Common.{◌≡◌, ◌++◌}
use Rattle.cfb_format.specs.Bytes.{words}
use Rattle.cfb_reading.proofs.minifat.append_words.Given as goal

abbrev pub invariant-loop-index : goal.invariant-loop-index
invariant-loop-index g l = l.into.items ≡ l.initial.into.items ++ words l.index l.bytes
