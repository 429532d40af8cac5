use Rattle.cfb_format.proofs.Chains.{chain_from-IsChain}
use Rattle.cfb_format.proofs.Unique.{Below-unique}
use Rattle.cfb_format.proofs.laws.lists_are_unique.Goals as goal

pub returns-clause-chain : goal.returns-clause-chain
returns-clause-chain c = chain_from-IsChain

pub returns-clause-below : goal.returns-clause-below
returns-clause-below c = Below-unique
