use Rattle.std.proofs.Common.{◌++◌, ◌∙◌, List, ℕ, ap, flat_map, map-id, string_bytes, sym}
use Rattle.std.proofs.lemmas.Iterator.{YieldsList-from_chars}
use Rattle.std.proofs.lemmas.Iterator.Consumers.{YieldsList-end}
use Rattle.std.specs.Str.{encode_utf8_all}
use Rattle.cfb_text.specs.Shown.{shown_char}
use Rattle.cfb_text.proofs.Appending.{one_letter}
use Rattle.cfb_text.proofs.shown.push_shown.Goals as goal

pub loop-letter-preserved : goal.loop-letter-preserved
loop-letter-preserved g c =
    one_letter shown_char (string_bytes c.args.into.now) (string_bytes c.loop-letter.into) (string_bytes c.push_letter.new.into) c.loop-letter.yielded c.in-Some.letter
    c.loop-letter.invariant c.in_ok-push_letter.ensures

pub returns : goal.returns
returns g c =
    let end = YieldsList-end (YieldsList-from_chars c.args.text.now c.utf8.text cc) c.loop-letter.yielded _ c.loop-letter.yielded_by _ _ c.in-None.is c.next.ensures.steps in
    c.loop-letter.invariant
    ∙ ap (λ (letters : List ℕ). string_bytes c.args.into.now ++ encode_utf8_all (flat_map shown_char letters)) (sym (map-id c.loop-letter.yielded) ∙ end.0)
