use Rattle.std.proofs.Common.{◌∙◌, List, ℕ, ap, string_bytes, subst, sym}
use Rattle.cfb_shown.specs.Trails.{AreEnds, paths_in}
use Rattle.cfb_shown.proofs.Trails.{cut-ends, cut-paths}
use Rattle.cfb_shown.proofs.trail.Trail.turn_back.Goals as goal

pub returns-clause-trail : goal.returns-clause-trail
returns-clause-trail g c =
    let bytes = string_bytes c.args.self.now.path in
    subst (AreEnds bytes) (sym c.truncate.ensures.items) (cut-ends bytes c.args.self.now.ends.items 1 c.requires)

pub returns-clause-paths : goal.returns-clause-paths
returns-clause-paths g c =
    let bytes = string_bytes c.args.self.now.path in
    ap (paths_in bytes) c.truncate.ensures.items ∙ cut-paths bytes c.args.self.now.ends.items 1
