use Rattle.std.proofs.Common.{◌≡◌, ◌++◌, flat_map, string_bytes}
use Rattle.std.specs.Str.{encode_utf8_all}
use Rattle.cfb_text.specs.Shown.{shown_char}
use Rattle.cfb_text.proofs.shown.push_shown.Given as goal

abbrev pub invariant-loop-letter : goal.invariant-loop-letter
invariant-loop-letter g l = string_bytes l.into ≡ string_bytes l.fn.into ++ encode_utf8_all (flat_map shown_char l.yielded)
