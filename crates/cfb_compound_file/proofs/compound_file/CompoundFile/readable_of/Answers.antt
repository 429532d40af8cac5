use Rattle.cfb_compound_file.proofs.compound_file.CompoundFile.readable_of.Goals as goal

pub returns-clause-ok : goal.returns-clause-ok
returns-clause-ok g c = rw (← c.self.view_is) (λ told unfailed. c.readable.ensures.ok told (c.self.invariant told unfailed))
