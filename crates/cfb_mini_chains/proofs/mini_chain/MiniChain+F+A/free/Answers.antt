use Rattle.cfb_mini_chains.proofs.cfb_alloc.Answering.{on_ok}
use Rattle.cfb_mini_chains.proofs.mini_chain.MiniChain+F+A.free.Goals as goal

pub returns-clause-ids : goal.returns-clause-ids
returns-clause-ids g c = on_ok _ _ c.cut.result (λ made. made.listed) c.cut.ensures.cut

pub returns-clause-holds : goal.returns-clause-holds
returns-clause-holds g c told validation h starts unnamed = c.cut.ensures.holds told validation h starts (λ none. unnamed)
