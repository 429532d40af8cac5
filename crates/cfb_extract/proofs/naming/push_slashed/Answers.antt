use Rattle.std.proofs.Common.{◌++◌, List, ℕ, ap, arith, sym, ◌∙◌, take, append-nil}
use Rattle.std.specs.Prelude.{string_bytes}
use Rattle.std.specs.Str.{chars}
use Rattle.std.proofs.lemmas.Str.{encode_ascii, IsUtf8-string_bytes}
use Rattle.cfb_extract.specs.Items.{texts}
use Rattle.cfb_extract.specs.Extracted.{slashed}
use Rattle.cfb_extract.proofs.Named.{slashed-behind, texts-more}
use Rattle.cfb_extract.proofs.naming.push_slashed.Goals as goal

pub loop-name-init : goal.loop-name-init
loop-name-init g c = sym (append-nil (chars (string_bytes c.args.into.now)))

pub loop-name-preserved : goal.loop-name-preserved
loop-name-preserved g c =
    slashed-behind (chars (string_bytes c.args.into.now)) (string_bytes c.loop-name.into) (string_bytes c.push.new.self) (string_bytes c.push_str.new.self) (string_bytes c.name-item.result)
    (texts (take c.loop-name.name-index c.args.names.now)) (IsUtf8-string_bytes c.loop-name.into) (IsUtf8-string_bytes c.push.new.self)
    (c.in_ok-push.ensures.bytes ∙ ap (λ (xs : List ℕ). string_bytes c.loop-name.into ++ xs) (encode_ascii 47 (omega arith)))
    (c.in_ok-push_str.ensures.bytes ∙ ap (λ (xs : List ℕ). string_bytes c.push.new.self ++ xs) c.as_str.ensures.value) c.loop-name.invariant
    ∙ ap (λ (names : List (List ℕ)). chars (string_bytes c.args.into.now) ++ slashed names) (sym (texts-more c.args.names.now c.loop-name.name-index c.name-item.result c.loop-name-test.true c.name-item.is))
