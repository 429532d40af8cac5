use Rattle.std.proofs.Common.{List, ℕ, ap}
use Rattle.std.specs.Prelude.{chars}
use Rattle.cfb_compound_file.proofs.Numbers.{lists-by, storage-in-list}
use Rattle.cfb_compound_file.proofs.compound_file.CompoundFile.children_at.Goals as goal

pub list_children-requires : goal.list_children-requires
list_children-requires g c =
    storage-in-list c.args.self.now c.entries-entries.result.now c.args.number (rw c.self.view_is at c.entries-entries.ensures.entries) (rw c.self.view_is at c.entries-entries.ensures.in_order) c.requires

pub returns-clause-agrees : goal.returns-clause-agrees
returns-clause-agrees g c = rw (← c.self.view_is) (λ told. c.self.invariant told)

pub returns-clause-ok : goal.returns-clause-ok
returns-clause-ok g c = rw (← c.self.view_is)
    (lists-by _ _ _ _ _ c.args.number _ _ c.entries-entries.ensures.entries (ap (λ (x : List ℕ). chars x) c.deref.ensures) c.in_ok-path.ensures.ok c.new.ensures c.in_ok-list.ensures.ok)

pub returns-in_err-clone-clause-agrees : goal.returns-in_err-clone-clause-agrees
returns-in_err-clone-clause-agrees g c = rw (← c.self.view_is) (λ told. c.self.invariant told)

pub returns-in_err-path-clause-agrees : goal.returns-in_err-path-clause-agrees
returns-in_err-path-clause-agrees g c = rw (← c.self.view_is) (λ told. c.self.invariant told)

pub returns-in_err-clone-2-clause-agrees : goal.returns-in_err-clone-2-clause-agrees
returns-in_err-clone-2-clause-agrees g c = rw (← c.self.view_is) (λ told. c.self.invariant told)

pub returns-in_err-list-clause-agrees : goal.returns-in_err-list-clause-agrees
returns-in_err-list-clause-agrees g c = rw (← c.self.view_is) (λ told. c.self.invariant told)
