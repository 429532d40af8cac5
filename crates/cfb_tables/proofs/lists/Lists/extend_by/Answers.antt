use Rattle.cfb_tables.proofs.AttachLemmas.{last-known, extended}
use Rattle.cfb_tables.proofs.lists.Lists.extend_by.Goals as goal

pub attach_by-requires-clause-ended : goal.attach_by-requires-clause-ended
attach_by-requires-clause-ended g c =
    let k = c.in_ok-last.ensures.ok in
    (last-known c.args.self.now.state.fat c.args.start k.0 c.in_ok-last.last k.1).0

pub attach_by-requires-clause-regular : goal.attach_by-requires-clause-regular
attach_by-requires-clause-regular g c =
    let k = c.in_ok-last.ensures.ok in
    (last-known c.args.self.now.state.fat c.args.start k.0 c.in_ok-last.last k.1).1

pub returns-clause-ok : goal.returns-clause-ok
returns-clause-ok g c =
    let k = c.in_ok-last.ensures.ok in
    extended c.args.self.now.state c.attach_by.new.self.state c.args.start k.0 c.in_ok-last.last c.in_ok-list.list.items k.1 c.in_ok-list.ensures.taken c.in_ok-list.ensures.chain
