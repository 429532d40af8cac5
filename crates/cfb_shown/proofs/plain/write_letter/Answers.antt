use Rattle.std.proofs.Common.{◌≡◌, ◌∷◌, ◌/◌, ◌%◌, ◌∙◌, [], Bool, List, ℕ, ap, append-nil, encode_utf8_all, sym}
use Rattle.std.specs.Prelude.{if◌then◌else◌}
use Rattle.std.specs.Char.{encode_utf8}
use Rattle.cfb_text.specs.Shown.{hex_digit}
use Rattle.cfb_shown.proofs.Pieces.{is-as}
use Rattle.cfb_shown.proofs.plain.write_letter.Goals as goal

shown-by : ℕ → Bool → List ℕ
shown-by letter hidden = if hidden
    then 92 ∷ 117 ∷ hex_digit (letter / 4096 % 16) ∷ hex_digit (letter / 256 % 16) ∷ hex_digit (letter / 16 % 16) ∷ hex_digit (letter % 16) ∷ []
    else letter ∷ []

pub returns-then-not-is_hidden : goal.returns-then-not-is_hidden
unfolding encode_utf8 shown-by
returns-then-not-is_hidden g c =
    is-as c.write.result _ _ _ _
    (sym (append-nil (encode_utf8 c.args.letter)) ∙ ap (λ (hidden : Bool). encode_utf8_all (shown-by c.args.letter hidden)) (sym (sym c.is_hidden.ensures ∙ c.if-not-is_hidden.true)))
    c.write.ensures.bytes
