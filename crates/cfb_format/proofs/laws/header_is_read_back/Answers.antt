use Rattle.cfb_format.proofs.HeaderFacts.{header_read_back}
use Rattle.cfb_format.proofs.laws.header_is_read_back.Goals as goal

pub returns : goal.returns
returns c = header_read_back
