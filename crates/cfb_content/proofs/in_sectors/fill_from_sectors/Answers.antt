use Rattle.cfb_content.proofs.in_sectors.fill_from_sectors.Goals as goal

pub returns-clause-tables : goal.returns-clause-tables
returns-clause-tables g c = c.read_along.ensures.kept.tables

pub returns-clause-kept : goal.returns-clause-kept
returns-clause-kept g c = c.read_along.ensures.kept.file
