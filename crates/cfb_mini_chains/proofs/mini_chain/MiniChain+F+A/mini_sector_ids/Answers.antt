use Rattle.cfb_mini_chains.proofs.cfb_alloc.ChainView.{found_chain}
use Rattle.cfb_mini_chains.proofs.mini_chain.MiniChain+F+A.mini_sector_ids.Goals as goal

pub returns-clause-chained : goal.returns-clause-chained
returns-clause-chained g c = found_chain _ _ _ c.args.self.now.chained
