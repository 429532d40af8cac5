use Rattle.std.proofs.Common.{[], ◌∷◌, ap, subst}
use Rattle.cfb_tables.specs.Tables.{TableState, Kept, HasTaken}
use Rattle.cfb_tables.proofs.AttachLemmas.{added-taken, added-chain}
use Rattle.cfb_tables.proofs.lists.Lists.attach_by.Goals as goal

pub returns-clause-taken : goal.returns-clause-taken
returns-clause-taken g c =
    let new = c.attach_prepared.new in
    let same = ap (λ (z : Kept). z.state) c.prepare.ensures.rest in
    let taken = added-taken c.prepare.new.self.state new.self.state c.args.last c.in_ok-list.list.items new.list.items c.in_ok-list.ensures.items c.attach_prepared.ensures.added in
    subst (λ (z : TableState). HasTaken z new.self.state (c.args.last ∷ []) new.list.items) same taken

pub returns-clause-chain : goal.returns-clause-chain
returns-clause-chain g c =
    let new = c.attach_prepared.new in
    added-chain c.prepare.new.self.state new.self.state c.args.last c.in_ok-list.list.items new.list.items c.in_ok-list.ensures.items c.attach_prepared.ensures.added
