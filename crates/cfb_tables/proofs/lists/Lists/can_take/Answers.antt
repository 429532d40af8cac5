use Rattle.std.proofs.Common.{ap, arith}
use Rattle.cfb_tables.specs.Tables.{Kept}
use Rattle.cfb_tables.proofs.RoomLemmas.{can-take}
use Rattle.cfb_tables.proofs.lists.Lists.can_take.Goals as goal

pub returns : goal.returns
returns g c =
    let s = c.self.inside in
    let r = c.with_most-left in
    can-take c.args.self.now.state c.args.count c.args.given_back c.saturating_sub-missing.result r.result.1 s.version s.max_sectors c.sizes.result r.result.0
    (ap (λ (z : Kept). z.state.version) c.self.view_is)
    (ap (λ (z : Kept). z.state.max_sectors) c.self.view_is)
    c.sizes.ensures.sizes
    (omega (arith, c.saturating_sub-missing.ensures, c.missing.ensures.free))
    r.ensures.few r.ensures.sizes r.ensures.limited r.ensures.full
