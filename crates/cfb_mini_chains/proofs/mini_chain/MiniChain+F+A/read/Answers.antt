use Rattle.cfb_chains.proofs.ChainBytes.{none_placed}
use Rattle.cfb_mini_chains.proofs.mini_chain.MiniChain+F+A.read.Goals as goal

pub returns-then-is_empty-clause-ok : goal.returns-then-is_empty-clause-ok
returns-then-is_empty-clause-ok g c told = none_placed _ _ _
