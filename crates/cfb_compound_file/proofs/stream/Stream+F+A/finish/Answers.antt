use Rattle.cfb_compound_file.proofs.stream.Stream+F+A.finish.Goals as goal

pub returns-clause-finishes : goal.returns-clause-finishes
returns-clause-finishes g c = record { closed = c.close-closed.result; closes = c.close-closed.ensures.closes; first = c.and.ensures }

pub returns-clause-tree : goal.returns-clause-tree
returns-clause-tree g c = c.close-closed.ensures.tree
