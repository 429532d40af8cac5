use Rattle.cfb_agreement.proofs.Parts.{parts-keep-made, parts-then}
use Rattle.cfb_agreement.proofs.laws.parts_keep_files_made.Goals as goal

pub returns-clause-made : goal.returns-clause-made
returns-clause-made c = parts-keep-made

pub returns-clause-in_turn : goal.returns-clause-in_turn
returns-clause-in_turn c = parts-then
