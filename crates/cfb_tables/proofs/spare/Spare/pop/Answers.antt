use Rattle.std.proofs.Common.{arith}
use Rattle.cfb_tables.proofs.SpareLemmas.{pop-row}
use Rattle.cfb_tables.proofs.spare.Spare.pop.Goals as goal

pub returns-then-self-clause-items : goal.returns-then-self-clause-items
returns-then-self-clause-items g c =
    let s = c.self.inside in
    rw (← c.self.view_is) (pop-row s.early s.first s.end s.listed.items (omega (arith, c.if-len-self.true, c.len.ensures, s.listed.ok.0)) (omega (arith, c.if-self.true)))
