use Rattle.cfb_compound_file.proofs.compound_file.CompoundFile.entries.Goals as goal

pub returns-clause-agrees : goal.returns-clause-agrees
returns-clause-agrees g c = rw (← c.self.view_is) (λ told. c.self.invariant told)
