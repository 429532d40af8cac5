use Rattle.cfb_rules.proofs.CallBreaks.{calm_work_full, creations_are_full}
use Rattle.cfb_rules.proofs.laws.few_calls_need_numbers.Goals as goal

pub returns-clause-by_path : goal.returns-clause-by_path
returns-clause-by_path c = creations_are_full

pub returns-clause-on_stream : goal.returns-clause-on_stream
returns-clause-on_stream c = calm_work_full
