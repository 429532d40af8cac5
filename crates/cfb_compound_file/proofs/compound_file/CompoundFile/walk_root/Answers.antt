use Rattle.cfb_compound_file.proofs.Numbers.{object-in-list, root-is-object}
use Rattle.cfb_compound_file.proofs.compound_file.CompoundFile.walk_root.Goals as goal

pub walk_from-requires : goal.walk_from-requires
walk_from-requires g c =
    object-in-list c.self.inside.volume c.entries-entries.result.now 0 c.entries-entries.ensures.entries c.entries-entries.ensures.in_order (root-is-object c.self.inside.volume)

pub returns-clause-agrees : goal.returns-clause-agrees
returns-clause-agrees g c = rw (← c.self.view_is) (λ told. c.self.invariant told)

pub returns-in_err-clone-clause-agrees : goal.returns-in_err-clone-clause-agrees
returns-in_err-clone-clause-agrees g c = rw (← c.self.view_is) (λ told. c.self.invariant told)

pub returns-in_err-path-clause-agrees : goal.returns-in_err-path-clause-agrees
returns-in_err-path-clause-agrees g c = rw (← c.self.view_is) (λ told. c.self.invariant told)

pub returns-in_err-clone-2-clause-agrees : goal.returns-in_err-clone-2-clause-agrees
returns-in_err-clone-2-clause-agrees g c = rw (← c.self.view_is) (λ told. c.self.invariant told)

pub returns-in_err-list-clause-agrees : goal.returns-in_err-list-clause-agrees
returns-in_err-list-clause-agrees g c = rw (← c.self.view_is) (λ told. c.self.invariant told)
