use Rattle.std.proofs.Common.{arith}
use Rattle.cfb_tables.proofs.FreeLemmas.{lists-count}
use Rattle.cfb_tables.proofs.lists.Lists.missing.Goals as goal

pub returns-clause-free : goal.returns-clause-free
returns-clause-free g c =
    let s = c.self.inside in
    let count = lists-count s.free.items s.fat.items c.self.invariant.kept.listed in
    rw (← c.self.view_is) (omega (arith, count, c.len.ensures))
