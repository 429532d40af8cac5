use Rattle.std.proofs.Common.{◌∙◌, List, ℕ, ap, flat_map, map-id, subst, sym}
use Rattle.std.proofs.KnownBytes.{Appends-nil}
use Rattle.std.proofs.lemmas.Iterator.{YieldsList-from_chars}
use Rattle.std.proofs.lemmas.Iterator.Consumers.{YieldsList-end}
use Rattle.std.proofs.lemmas.Str.{encodes-chars}
use Rattle.std.specs.Io.KnownBytes.{Appends}
use Rattle.std.specs.Str.{encode_utf8_all}
use Rattle.cfb_text.specs.Shown.{shown_char}
use Rattle.cfb_shown.proofs.Pieces.{is-as, letter-more}
use Rattle.cfb_shown.proofs.plain.write_shown.Goals as goal

pub returns-then-is_plain : goal.returns-then-is_plain
returns-then-is_plain g c =
    is-as c.write_all.result _ _ _ _ (c.as_bytes.ensures.value ∙ sym (encodes-chars c.args.text.now c.utf8.text) ∙ ap encode_utf8_all (sym (c.is_plain.ensures c.if-is_plain.true))) c.write_all.ensures.bytes

pub loop-letter-init : goal.loop-letter-init
loop-letter-init g c = Appends-nil (g.W.Write.contents c.args.out.now)

pub loop-letter-preserved : goal.loop-letter-preserved
loop-letter-preserved g c =
    letter-more shown_char (g.W.Write.contents c.args.out.now) (g.W.Write.contents c.loop-letter.out) (g.W.Write.contents c.write_letter.new.out) c.loop-letter.yielded c.in-Some.letter
    c.loop-letter.invariant c.in_ok-write_letter.ensures

pub returns : goal.returns
returns g c =
    let end = YieldsList-end (YieldsList-from_chars c.args.text.now c.utf8.text cc) c.loop-letter.yielded _ c.loop-letter.yielded_by _ _ c.in-None.is c.next.ensures.steps in
    subst (λ (letters : List ℕ). Appends (g.W.Write.contents c.args.out.now) (g.W.Write.contents c.loop-letter.out) (encode_utf8_all (flat_map shown_char letters)))
    (sym (map-id c.loop-letter.yielded) ∙ end.0) c.loop-letter.invariant
