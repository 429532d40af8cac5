use Rattle.cfb_tables.proofs.ListedLemmas.{what_is_left-is-chain, what_is_left-ends}
use Rattle.cfb_tables.proofs.laws.what_is_left_is_a_chain.Goals as goal

pub returns-clause-chain : goal.returns-clause-chain
returns-clause-chain c = what_is_left-is-chain

pub returns-clause-ends : goal.returns-clause-ends
returns-clause-ends c = what_is_left-ends
