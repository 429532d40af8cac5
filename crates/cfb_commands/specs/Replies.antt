-- What a list of commands is answered, over any medium.
use Rattle.std.specs.Prelude.{All, drop, length, map, take, ◌+◌, ◌≡◌, List}
use Rattle.cfb_commands.specs.declared.command.Reply.{Reply}
use Rattle.cfb_commands.specs.declared.command.Command.{Command}
use Rattle.cfb_commands.specs.Failing.{IsAsked}
use Rattle.cfb_commands.specs.Kinds.{AreOfKinds, kind_of_command}

-- over any medium: behind the replies that were there, each command has one of its kind, and what only looks was refused, if it was, for its path or
-- for want of memory
pub record RepliesToEach {A : Type 0} (commands : List (Command A)) (before after : List (Reply A)) : Type 0 where
  pub kept : take (length before) after ≡ before
  pub one_each : length after ≡ length before + length commands
  pub of_kinds : AreOfKinds (map kind_of_command commands) (drop (length before) after)
  pub asked : All IsAsked (drop (length before) after)
