use Rattle.std.proofs.Common.{◌++◌, ◌∙◌, List, ℕ, ap, string_bytes}
use Rattle.std.proofs.lemmas.Str.{IsUtf8-string_bytes}
use Rattle.std.specs.Str.{chars, encode_utf8_all}
use Rattle.cfb_text.specs.Shown.{shown}
use Rattle.cfb_text.proofs.Appending.{made_of}
use Rattle.cfb_text.proofs.shown.shown.Goals as goal

pub returns : goal.returns
returns g c =
    made_of (string_bytes c.push_shown.new.into) (shown (chars c.args.text.now)) (IsUtf8-string_bytes c.push_shown.new.into)
    (c.in_ok-push_shown.ensures ∙ ap (λ (bytes : List ℕ). bytes ++ encode_utf8_all (shown (chars c.args.text.now))) c.new-seen.ensures.bytes)
