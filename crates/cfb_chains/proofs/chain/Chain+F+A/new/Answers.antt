use Rattle.cfb_chains.proofs.cfb_alloc.ChainView.{chain_found}
use Rattle.cfb_chains.proofs.chain.Chain+F+A.new.Goals as goal

pub invariant_of-result-clause-chained : goal.invariant_of-result-clause-chained
invariant_of-result-clause-chained g c = rw c.open_chain.ensures.unchanged (chain_found _ _ _ c.in_ok-ids.ensures.ok)
