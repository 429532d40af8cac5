use Rattle.cfb_tables.proofs.ChainLemmas.{chain-stays, other-chains-stay, chain-turn, members-busy}
use Rattle.cfb_tables.proofs.laws.chains_follow_changes.Goals as goal

pub returns-clause-stay : goal.returns-clause-stay
returns-clause-stay c = chain-stays

pub returns-clause-others : goal.returns-clause-others
returns-clause-others c = other-chains-stay

pub returns-clause-turn : goal.returns-clause-turn
returns-clause-turn c = chain-turn

pub returns-clause-busy : goal.returns-clause-busy
returns-clause-busy c = members-busy
