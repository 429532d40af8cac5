use Rattle.cfb_lines.proofs.Single.{one_script}
use Rattle.cfb_lines.proofs.laws.a_text_is_one_script.Goals as goal

pub returns : goal.returns
returns c = one_script
