use Rattle.cfb_compound_file.proofs.compound_file.CompoundFile.set_storage_clsid.Goals as goal

pub returns-clause-does : goal.returns-clause-does
returns-clause-does g c = rw (← c.self.view_is) (λ told. c.set_field.ensures.does told)

pub returns-clause-any : goal.returns-clause-any
returns-clause-any g c = rw (← c.self.view_is) c.set_field.ensures.any
