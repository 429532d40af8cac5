use Rattle.cfb_compound_file.proofs.compound_file.CompoundFile.create_storage_all.Goals as goal

pub returns-clause-does : goal.returns-clause-does
returns-clause-does g c = rw (← c.self.view_is) (λ told. c.create_storage_all.ensures.does told)

pub returns-clause-any : goal.returns-clause-any
returns-clause-any g c = rw (← c.self.view_is) c.create_storage_all.ensures.any

pub returns-clause-foreseen : goal.returns-clause-foreseen
returns-clause-foreseen g c = rw (← c.self.view_is) (λ told. c.create_storage_all.ensures.foreseen told)
