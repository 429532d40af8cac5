use Rattle.std.proofs.Common.{flat_map}
use Rattle.std.specs.Io.KnownBytes.{Appends}
use Rattle.std.specs.Str.{encode_utf8_all}
use Rattle.cfb_text.specs.Shown.{shown_char}
use Rattle.cfb_shown.proofs.plain.write_shown.Given as goal

abbrev pub invariant-loop-letter : goal.invariant-loop-letter
invariant-loop-letter g l = Appends (g.W.Write.contents l.fn.out) (g.W.Write.contents l.out) (encode_utf8_all (flat_map shown_char l.yielded))
