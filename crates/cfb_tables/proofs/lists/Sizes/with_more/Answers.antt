use Rattle.cfb_tables.proofs.RoomLemmas.{left-passes}
use Rattle.cfb_tables.proofs.lists.Sizes.with_more.Goals as goal

pub returns-then-left-gt0-clause-err : goal.returns-then-left-gt0-clause-err
returns-then-left-gt0-clause-err c =
    let r = c.with_most-left in
    let some = c.if-left-gt0.true in
    left-passes c.args.version c.args.limit c.args.more r.result.1 r.result.0 c.args.self r.ensures.few some (r.ensures.full some) r.ensures.sizes
