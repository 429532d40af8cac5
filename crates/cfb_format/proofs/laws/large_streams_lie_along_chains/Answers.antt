use Rattle.cfb_format.proofs.Along.{readable-large}
use Rattle.cfb_format.proofs.laws.large_streams_lie_along_chains.Goals as goal

pub returns : goal.returns
returns c = readable-large
