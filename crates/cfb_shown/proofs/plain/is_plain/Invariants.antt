use Rattle.std.proofs.Common.{◌≡◌, flat_map}
use Rattle.cfb_text.specs.Shown.{shown_char}
use Rattle.cfb_shown.proofs.plain.is_plain.Given as goal

abbrev pub invariant-loop-letter : goal.invariant-loop-letter
invariant-loop-letter l = flat_map shown_char l.yielded ≡ l.yielded
