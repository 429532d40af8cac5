use Rattle.cfb_content.proofs.Snug.{empty-is-snug, kept-is-snug, same-is-sized, sized-is-snug, sized-stays-snug}
use Rattle.cfb_content.proofs.SnugMini.{growth-is-snug-mini, kept-is-snug-mini}
use Rattle.cfb_content.proofs.laws.chains_fit_their_lengths.Goals as goal

pub returns-clause-kept : goal.returns-clause-kept
returns-clause-kept c = kept-is-snug

pub returns-clause-empty : goal.returns-clause-empty
returns-clause-empty c = empty-is-snug

pub returns-clause-sized : goal.returns-clause-sized
returns-clause-sized c = sized-is-snug

pub returns-clause-own : goal.returns-clause-own
returns-clause-own c = sized-stays-snug

pub returns-clause-same : goal.returns-clause-same
returns-clause-same c = same-is-sized

pub returns-clause-mini_longer : goal.returns-clause-mini_longer
returns-clause-mini_longer c = growth-is-snug-mini

pub returns-clause-mini_kept : goal.returns-clause-mini_kept
returns-clause-mini_kept c = kept-is-snug-mini
