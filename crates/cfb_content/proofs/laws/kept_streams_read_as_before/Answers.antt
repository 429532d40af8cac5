use Rattle.cfb_content.proofs.Readable.{kept-is-readable, others-readable}
use Rattle.cfb_content.proofs.laws.kept_streams_read_as_before.Goals as goal

pub returns-clause-kept : goal.returns-clause-kept
returns-clause-kept c = kept-is-readable

pub returns-clause-others : goal.returns-clause-others
returns-clause-others c = others-readable
