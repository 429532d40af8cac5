use Rattle.std.proofs.Common.{[], List, ℕ, sym, ap, subst}
use Rattle.cfb_tables.specs.Changes.{GivesBack}
use Rattle.cfb_tables.specs.Tables.{Kept, first_or_end}
use Rattle.cfb_tables.proofs.ChainLemmas.{members-busy}
use Rattle.cfb_tables.proofs.ListedLemmas.{freed-by-list}
use Rattle.cfb_tables.proofs.lists.Lists.free_listed.Goals as goal

pub free_all-requires-clause-busy : goal.free_all-requires-clause-busy
free_all-requires-clause-busy g c i m =
    let list = c.args.list.now in
    (members-busy c.args.self.now.state.fat (first_or_end list) list c.requires.chain i m).0

pub returns-clause-freed : goal.returns-clause-freed
returns-clause-freed g c =
    let t = c.args.self.now.state.fat in
    let list = c.args.list.now in
    let now = ap (λ (z : Kept). z.state.fat) c.free_all.ensures in
    subst (λ (z : List ℕ). GivesBack [] list t z) (sym now) (freed-by-list t list (first_or_end list) c.requires.chain)
