use Rattle.std.proofs.Common.{◌≡◌, ◌∙◌, ap, arith, length}
use Rattle.std.specs.Prelude.{chars, string_bytes}
use Rattle.std.proofs.lemmas.Bool.Decides.{nat_tests}
use Rattle.std.proofs.lemmas.Iterator.Consumers.{count_from_yields_List}
use Rattle.cfb_format.specs.Names.{utf16_units}
use Rattle.cfb_codecs.proofs.Units.{YieldsList-from_units}
use Rattle.cfb_entries.proofs.names.has_short_name.Goals as goal

pub returns : goal.returns
returns g c =
    let count : c.count.result ≡ length (utf16_units (chars (string_bytes c.args.entry.now.name))) =
    count_from_yields_List _ _ c.count.ensures.ran (YieldsList-from_units c.deref.result.now c.deref.utf8 c.encode_utf16.ensures.text c.encode_utf16.ensures.pending)
    ∙ ap (λ t. length (utf16_units (chars t))) c.deref.ensures in
    grind (arith, nat_tests)
