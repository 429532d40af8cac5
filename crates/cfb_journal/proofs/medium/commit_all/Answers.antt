use Rattle.std.proofs.Common.{arith}
use Rattle.cfb_journal.proofs.medium.commit_all.Goals as goal

pub commit_at_once-requires-clause-table : goal.commit_at_once-requires-clause-table
commit_at_once-requires-clause-table g c = record { ordered = omega arith; fits = c.requires.table.fits; few = c.requires.table.few }
