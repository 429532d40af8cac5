use Rattle.std.proofs.Common.{◌∙◌, sym, ap}
use Rattle.std.specs.Prelude.{chars, string_bytes, ◌++◌}
use Rattle.std.proofs.lemmas.Str.{chars-append, IsUtf8-string_bytes}
use Rattle.cfb_listing.proofs.listing.path_below.Goals as goal

pub returns-clause-ok : goal.returns-clause-ok
returns-clause-ok g c =
    let joined = string_bytes c.push_str-2.new.self in
    let start = string_bytes c.push_str.new.self in
    ap chars c.in_ok-push_str-3.ensures.bytes
    ∙ chars-append joined c.args.name.now (IsUtf8-string_bytes c.push_str-2.new.self)
    ∙ ap (λ cs. cs ++ chars c.args.name.now)
    (ap chars c.in_ok-push_str-2.ensures.bytes ∙ chars-append start c.separator-separator.result.now (IsUtf8-string_bytes c.push_str.new.self)
    ∙ ap (λ bs. chars bs ++ chars c.separator-separator.result.now) (c.in_ok-push_str.ensures.bytes ∙ ap (λ bs. bs ++ c.args.parent.now) c.in_ok-path.ensures.bytes))
    ∙ sym (c.separator-separator.ensures (chars c.args.name.now))
