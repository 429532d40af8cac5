use Rattle.cfb_lines.proofs.Written.{lines_are_a_script}
use Rattle.cfb_lines.proofs.laws.written_lines_are_a_script.Goals as goal

pub returns : goal.returns
returns c = lines_are_a_script
