use Rattle.cfb_tables.proofs.WordLemmas.{padding-is-apart, table-sectors-are-in-file, difat-sectors-are-few}
use Rattle.cfb_tables.proofs.laws.tables_lie_in_the_file.Goals as goal

pub returns-clause-padding : goal.returns-clause-padding
returns-clause-padding c = padding-is-apart

pub returns-clause-sectors : goal.returns-clause-sectors
returns-clause-sectors c = table-sectors-are-in-file

pub returns-clause-few : goal.returns-clause-few
returns-clause-few c = difat-sectors-are-few
