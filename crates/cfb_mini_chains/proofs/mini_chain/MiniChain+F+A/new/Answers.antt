use Rattle.cfb_mini_chains.proofs.cfb_alloc.ChainView.{chain_few, chain_found}
use Rattle.cfb_mini_chains.proofs.mini_chain.MiniChain+F+A.new.Goals as goal

pub invariant_of-result-clause-few : goal.invariant_of-result-clause-few
invariant_of-result-clause-few g c = chain_few _ _ _ (chain_found _ _ _ c.in_ok-ids.ensures.ok)

pub invariant_of-result-clause-chained : goal.invariant_of-result-clause-chained
invariant_of-result-clause-chained g c = chain_found _ _ _ c.in_ok-ids.ensures.ok
