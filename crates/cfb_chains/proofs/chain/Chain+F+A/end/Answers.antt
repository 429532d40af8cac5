use Rattle.cfb_chains.proofs.ChainLists.{listed_chain}
use Rattle.cfb_chains.proofs.chain.Chain+F+A.end.Goals as goal

pub end_chain-requires : goal.end_chain-requires
end_chain-requires g c = listed_chain _ _ _ c.args.self.chained
