use Rattle.cfb_content.proofs.Rewritten.{large-is-resized, large-is-written, small-is-resized, small-is-written}
use Rattle.cfb_content.proofs.laws.changed_streams_read_as_they_stand.Goals as goal

pub returns-clause-large_resized : goal.returns-clause-large_resized
returns-clause-large_resized c = large-is-resized

pub returns-clause-small_resized : goal.returns-clause-small_resized
returns-clause-small_resized c = small-is-resized

pub returns-clause-large_written : goal.returns-clause-large_written
returns-clause-large_written c = large-is-written

pub returns-clause-small_written : goal.returns-clause-small_written
returns-clause-small_written c = small-is-written
