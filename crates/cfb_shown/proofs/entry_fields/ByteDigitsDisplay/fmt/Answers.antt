use Rattle.std.proofs.Common.{false, ◌/◌, ◌%◌}
use Rattle.std.proofs.Output.{has_written_of_eq}
use Rattle.std.specs.Fmt.{digit_glyph}
use Rattle.cfb_shown.proofs.RowTexts.{two_digits_are}
use Rattle.cfb_shown.proofs.entry_fields.ByteDigitsDisplay.fmt.Goals as goal

pub returns-clause-writes : goal.returns-clause-writes
returns-clause-writes g c = λ plain ok.
    has_written_of_eq _ _ _ _ _
    (two_digits_are c.digit_text-high.result.now c.digit_text-low.result.now (digit_glyph false (c.args.self.now.0 / 16 % 16)) (digit_glyph false (c.args.self.now.0 % 16))
    c.digit_text-high.ensures c.digit_text-low.ensures)
    (c.write.ensures.writes plain ok)
