use Rattle.std.proofs.Common.{◌≡◌, ◌∷◌, ◌/◌, ◌%◌, ◌∙◌, [], Bool, List, ℕ, ap, false, flat_map, map-id, refl, subst, sym}
use Rattle.std.specs.Prelude.{if◌then◌else◌}
use Rattle.std.proofs.lemmas.Iterator.{YieldsList-from_chars}
use Rattle.std.proofs.lemmas.Iterator.Consumers.{YieldsList-end}
use Rattle.cfb_text.specs.Shown.{hex_digit, is_hidden, shown_char}
use Rattle.cfb_shown.proofs.Pieces.{plain-more}
use Rattle.cfb_shown.proofs.plain.is_plain.Goals as goal

plain : (letter : ℕ) → is_hidden letter ≡ false → shown_char letter ≡ letter ∷ []
plain letter is = ap (λ (b : Bool). if b
    then 92 ∷ 117 ∷ hex_digit (letter / 4096 % 16) ∷ hex_digit (letter / 256 % 16) ∷ hex_digit (letter / 16 % 16) ∷ hex_digit (letter % 16) ∷ []
    else letter ∷ []) is

pub loop-letter-init : goal.loop-letter-init
loop-letter-init c = refl

pub loop-letter-preserved : goal.loop-letter-preserved
loop-letter-preserved c =
    plain-more shown_char c.loop-letter.yielded c.in-Some.letter c.loop-letter.invariant (plain c.in-Some.letter (sym c.is_hidden.ensures ∙ c.if-is_hidden.false))

pub returns : goal.returns
returns c =
    let end = YieldsList-end (YieldsList-from_chars c.args.text.now c.utf8.text cc) c.loop-letter.yielded _ c.loop-letter.yielded_by _ _ c.in-None.is c.next.ensures.steps in
    λ _. subst (λ (letters : List ℕ). flat_map shown_char letters ≡ letters) (sym (map-id c.loop-letter.yielded) ∙ end.0) c.loop-letter.invariant
