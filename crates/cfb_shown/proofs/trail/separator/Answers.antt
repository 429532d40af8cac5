use Rattle.std.proofs.Common.{List, ℕ, ◌∷◌, ◌++◌, ◌∙◌, [], sym, ap, arith, append_assoc, append-nil}
use Rattle.std.specs.Str.{chars}
use Rattle.std.proofs.lemmas.Str.{chars-nil}
use Rattle.std.proofs.lemmas.Str.Pattern.{ends_char}
use Rattle.cfb_format.specs.Path.{slash}
use Rattle.cfb_listing.proofs.Slashes.{chars-slash, ended, unended, below-ended, below-unended}
use Rattle.cfb_shown.proofs.trail.separator.Goals as goal

pub returns-then-ends_with : goal.returns-then-ends_with
returns-then-ends_with c name =
    let path = c.args.path.now in
    below-ended (chars path) name (ended path c.utf8.path ((ends_char slash path c.ends_with.result c.ends_with.ensures.cases (omega arith)).0 c.if-ends_with.true))
    ∙ ap (λ (cs : List ℕ). cs ++ name) (sym (append-nil (chars path)) ∙ ap (λ (cs : List ℕ). chars path ++ cs) (sym chars-nil))

pub returns-else-ends_with : goal.returns-else-ends_with
returns-else-ends_with c name =
    let path = c.args.path.now in
    below-unended (chars path) name (unended path c.ends_with.result c.utf8.path (ends_char slash path c.ends_with.result c.ends_with.ensures.cases (omega arith)).1 c.if-ends_with.false)
    ∙ sym (append_assoc (chars path) (slash ∷ []) name) ∙ ap (λ (cs : List ℕ). (chars path ++ cs) ++ name) (sym chars-slash)
