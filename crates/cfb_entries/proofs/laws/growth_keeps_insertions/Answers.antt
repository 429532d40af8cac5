use Rattle.cfb_entries.proofs.Contents.{insertion-stays, reached-stays}
use Rattle.cfb_entries.proofs.laws.growth_keeps_insertions.Goals as goal

pub returns-clause-insertions : goal.returns-clause-insertions
returns-clause-insertions g c name cases entries more parent insertion i = insertion-stays name cases entries more parent insertion i

pub returns-clause-reached : goal.returns-clause-reached
returns-clause-reached g c = reached-stays
