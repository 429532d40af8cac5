use Rattle.cfb_commands.proofs.CallSteps.{call_step}
use Rattle.cfb_commands.proofs.laws.calls_are_steps.Goals as goal

pub returns : goal.returns
returns c = call_step
