use Rattle.cfb_tables.proofs.Counts.{tally-append, taking-by-count, freeing-by-count}
use Rattle.cfb_tables.proofs.laws.uses_follow_counts.Goals as goal

pub returns-clause-both : goal.returns-clause-both
returns-clause-both c = tally-append

pub returns-clause-taking : goal.returns-clause-taking
returns-clause-taking c = taking-by-count

pub returns-clause-freeing : goal.returns-clause-freeing
returns-clause-freeing c = freeing-by-count
