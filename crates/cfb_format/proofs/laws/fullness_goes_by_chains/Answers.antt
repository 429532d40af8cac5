use Rattle.cfb_format.proofs.FullChains.{long_chains, long_mini_chains}
use Rattle.cfb_format.proofs.laws.fullness_goes_by_chains.Goals as goal

pub returns-clause-sectors : goal.returns-clause-sectors
returns-clause-sectors c = long_chains

pub returns-clause-mini_sectors : goal.returns-clause-mini_sectors
returns-clause-mini_sectors c = long_mini_chains
