use Rattle.std.proofs.Common.{◌∙◌}
use Rattle.cfb_mending.proofs.Patching.{length-mended}
use Rattle.cfb_mending.proofs.patches.MendedReadMedium.length.Goals as goal

pub returns-clause-honest : goal.returns-clause-honest
returns-clause-honest g c told =
    let below = c.in_ok-length.ensures.honest told in
    (c.max.ensures ∙ length-mended c.args.self.now.patches.items c.args.self.now.least _ (g.F.ReadMedium.bytes c.args.self.now.medium) below.0, below.1)
