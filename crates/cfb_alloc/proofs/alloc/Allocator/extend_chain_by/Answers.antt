use Rattle.std.proofs.Common.{sym, subst, ℕ, List, IfErr}
use Rattle.cfb_alloc.specs.Broken.{BreaksOff}
use Rattle.cfb_tables.specs.Tables.{TakesFor}
use Rattle.cfb_alloc.proofs.alloc.Allocator.extend_chain_by.Goals as goal
use Rattle.cfb_tables.proofs.ListedLemmas.{ending_other}

pub returns-clause-refused : goal.returns-clause-refused
returns-clause-refused g c =
    subst (λ (xs : List ℕ). IfErr c.append_by.result (BreaksOff (TakesFor xs) c.args.self.now c.append_by.new.self)) (sym (ending_other c.args.last c.if-last-eq-END_OF_CHAIN.false))
    c.append_by.ensures.refused
