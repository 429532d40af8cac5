use Rattle.cfb_rules.proofs.CallBreaks.{flush_fails, stream_flush_fails}
use Rattle.cfb_rules.proofs.laws.refused_flushes_fail.Goals as goal

pub returns-clause-by_path : goal.returns-clause-by_path
returns-clause-by_path c = flush_fails

pub returns-clause-on_stream : goal.returns-clause-on_stream
returns-clause-on_stream c = stream_flush_fails
