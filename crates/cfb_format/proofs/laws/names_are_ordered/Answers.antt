use Rattle.cfb_format.proofs.NameOrder.{name_cmp-total, name_cmp-equal}
use Rattle.cfb_format.proofs.laws.names_are_ordered.Goals as goal

pub returns-clause-ordered : goal.returns-clause-ordered
returns-clause-ordered c = name_cmp-total

pub returns-clause-equal : goal.returns-clause-equal
returns-clause-equal c = name_cmp-equal
