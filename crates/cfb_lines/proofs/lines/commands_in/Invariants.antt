use Rattle.std.proofs.Common.{◌+◌, ◌≤◌, length, map}
use Rattle.cfb_commands.specs.Commands.{command_of}
use Rattle.cfb_lines.proofs.Scripts.{IsReadUpTo}
use Rattle.cfb_lines.proofs.lines.commands_in.Given as goal

abbrev pub invariant-loop-rest : goal.invariant-loop-rest
invariant-loop-rest g l = record {
  so_far : IsReadUpTo l.input (map command_of l.commands.items) l.number l.rest;
  room : l.number + length l.rest ≤ length l.input;
}

abbrev pub decreases-loop-rest : goal.decreases-loop-rest
decreases-loop-rest g l = length l.rest
