use Rattle.std.proofs.Common.{◌∙◌, ◌≤◌, ap, arith, length, string_bytes}
use Rattle.std.proofs.lemmas.List.{take_all}
use Rattle.std.proofs.lemmas.Str.{IsUtf8-string_bytes}
use Rattle.std.specs.Str.{encode_utf8_all}
use Rattle.cfb_text.proofs.Appending.{made_of, one_more}
use Rattle.cfb_text.proofs.text.text_of.Goals as goal

pub loop-letter-preserved : goal.loop-letter-preserved
loop-letter-preserved g c =
    one_more (string_bytes c.loop-letter.text) (string_bytes c.push.new.self) c.args.letters.now c.loop-letter.letter-index c.letter-item.result
    (omega arith) c.letter-item.is c.loop-letter.invariant c.in_ok-push.ensures.bytes

pub returns : goal.returns
returns g c =
    let past : length c.args.letters.now ≤ c.loop-letter.letter-index = omega arith in
    made_of (string_bytes c.loop-letter.text) c.args.letters.now (IsUtf8-string_bytes c.loop-letter.text)
    (c.loop-letter.invariant ∙ ap encode_utf8_all (take_all c.loop-letter.letter-index c.args.letters.now past))
