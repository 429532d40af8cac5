use Rattle.cfb_format.proofs.HeaderStart.{header_at_start}
use Rattle.cfb_format.proofs.Unique.{IsHeader-unique}
use Rattle.cfb_format.proofs.laws.header_is_at_the_start.Goals as goal

pub returns-clause-start : goal.returns-clause-start
returns-clause-start c = header_at_start

pub returns-clause-unique : goal.returns-clause-unique
returns-clause-unique c = IsHeader-unique
