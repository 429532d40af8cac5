use Rattle.cfb_commands.proofs.Steps.{closing_step, stream_call_step}
use Rattle.cfb_commands.proofs.laws.streams_are_steps.Goals as goal

pub returns-clause-calls : goal.returns-clause-calls
returns-clause-calls c = stream_call_step

pub returns-clause-closed : goal.returns-clause-closed
returns-clause-closed c = closing_step
