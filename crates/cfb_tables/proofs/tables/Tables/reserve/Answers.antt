use Rattle.cfb_tables.proofs.tables.Tables.reserve.Goals as goal

pub returns-clause-err : goal.returns-clause-err
returns-clause-err g c = rw (← c.self.view_is) c.prepare.ensures.err
