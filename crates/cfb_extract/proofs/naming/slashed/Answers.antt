use Rattle.std.proofs.Common.{◌++◌, List, ℕ, ap, ◌∙◌}
use Rattle.std.specs.Str.{chars}
use Rattle.std.proofs.lemmas.Str.{chars-nil}
use Rattle.cfb_extract.specs.Items.{texts}
use Rattle.cfb_extract.specs.Extracted.{slashed}
use Rattle.cfb_extract.proofs.naming.slashed.Goals as goal

pub returns : goal.returns
returns g c = c.in_ok-push_slashed.ensures ∙ ap (λ (cs : List ℕ). cs ++ slashed (texts c.args.names.now)) (ap chars c.new-path.ensures.bytes ∙ chars-nil)
