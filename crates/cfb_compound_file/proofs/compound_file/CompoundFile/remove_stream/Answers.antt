use Rattle.cfb_compound_file.proofs.compound_file.CompoundFile.remove_stream.Goals as goal

pub returns-clause-does : goal.returns-clause-does
returns-clause-does g c = rw (← c.self.view_is) (λ told. c.remove_stream.ensures.does told)

pub returns-clause-any : goal.returns-clause-any
returns-clause-any g c = rw (← c.self.view_is) c.remove_stream.ensures.any

pub returns-clause-erased : goal.returns-clause-erased
returns-clause-erased g c = rw (← c.self.view_is) (λ told. c.remove_stream.ensures.erased told)
