use Rattle.std.proofs.Common.{ap}
use Rattle.cfb_tables.specs.Tables.{Kept}
use Rattle.cfb_tables.proofs.RoomLemmas.{one-more-passes}
use Rattle.cfb_tables.proofs.lists.Lists.takable.Goals as goal

pub returns-clause-most : goal.returns-clause-most
returns-clause-most g c =
    let s = c.self.inside in
    let r = c.with_most-left in
    one-more-passes c.args.self.now.state c.args.wanted c.missing-missing.result r.result.1 s.version s.max_sectors c.sizes.result r.result.0
    (ap (λ (z : Kept). z.state.version) c.self.view_is)
    (ap (λ (z : Kept). z.state.max_sectors) c.self.view_is)
    c.sizes.ensures.sizes c.missing-missing.ensures.free r.ensures.few r.ensures.sizes r.ensures.full
