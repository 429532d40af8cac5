use Rattle.cfb_path_changes.proofs.Numbers.{object-within}
use Rattle.cfb_compound_file.proofs.Numbers.{told-by}
use Rattle.cfb_compound_file.proofs.compound_file.CompoundFile.told_at.Goals as goal

pub entry_of-requires : goal.entry_of-requires
entry_of-requires g c =
    object-within c.args.self.now c.entries-entries.result.now c.args.number (rw c.self.view_is at c.entries-entries.ensures.entries) (rw c.self.view_is at c.entries-entries.ensures.in_order) c.requires

pub returns-clause-agrees : goal.returns-clause-agrees
returns-clause-agrees g c = rw (← c.self.view_is) (λ told. c.self.invariant told)

pub returns-in_err-clone-clause-agrees : goal.returns-in_err-clone-clause-agrees
returns-in_err-clone-clause-agrees g c = rw (← c.self.view_is) (λ told. c.self.invariant told)

pub returns-in_err-path-clause-agrees : goal.returns-in_err-path-clause-agrees
returns-in_err-path-clause-agrees g c = rw (← c.self.view_is) (λ told. c.self.invariant told)

pub returns-clause-ok : goal.returns-clause-ok
returns-clause-ok g c = rw (← c.self.view_is)
    (told-by _ _ _ _ c.args.number c.entry_of.result c.entries-entries.ensures.entries c.in_ok-path.ensures.ok c.entry_of.ensures.ok)
