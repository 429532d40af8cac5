use Rattle.cfb_commands.proofs.Idle.{runs_stay_idle}
use Rattle.cfb_commands.proofs.Made as lemmas
use Rattle.cfb_commands.proofs.laws.runs_stay_made.Goals as goal

pub returns-clause-made : goal.returns-clause-made
returns-clause-made c = lemmas.runs_stay_made

pub returns-clause-low : goal.returns-clause-low
returns-clause-low c = lemmas.runs_stay_low

pub returns-clause-idle : goal.returns-clause-idle
returns-clause-idle c = runs_stay_idle
