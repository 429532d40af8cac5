use Rattle.cfb_tables.proofs.CleanLemmas.{clean-within, taken-clean, extended-clean, freed-clean, cut-clean}
use Rattle.cfb_tables.proofs.laws.tables_stay_clean.Goals as goal

pub returns-clause-within : goal.returns-clause-within
returns-clause-within c = clean-within

pub returns-clause-taken : goal.returns-clause-taken
returns-clause-taken c = taken-clean

pub returns-clause-extended : goal.returns-clause-extended
returns-clause-extended c = extended-clean

pub returns-clause-freed : goal.returns-clause-freed
returns-clause-freed c = freed-clean

pub returns-clause-cut : goal.returns-clause-cut
returns-clause-cut c = cut-clean
