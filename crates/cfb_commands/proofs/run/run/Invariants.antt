use Rattle.std.proofs.Common.{◌≡◌, ◌+◌, drop, length, map, take, vec_capacity}
use Rattle.std.specs.Prelude.{◌||◌, All, IsTrue}
use Rattle.cfb_commands.specs.Commands.{command_of, command_reply_of}
use Rattle.cfb_commands.specs.Failing.{IsAsked}
use Rattle.cfb_commands.specs.Faults.{IsGiven}
use Rattle.cfb_commands.specs.Heeding.{HeedInTurn}
use Rattle.cfb_commands.specs.Kinds.{AreOfKinds, kind_of_command}
use Rattle.cfb_commands.specs.Working.{RunsLegally}
use Rattle.cfb_commands.proofs.run.run.Given as goal

abbrev pub invariant-loop-command : goal.invariant-loop-command
invariant-loop-command g l = record {
  count : length l.replies.items ≡ length l.fn.replies.items + l.command-index;
  room : vec_capacity l.replies ≡ vec_capacity l.fn.replies;
  kept : take (length l.fn.replies.items) l.replies.items ≡ l.fn.replies.items;
  of_kinds : AreOfKinds (map kind_of_command (take l.command-index l.commands)) (drop (length l.fn.replies.items) l.replies.items);
  asked : All IsAsked (drop (length l.fn.replies.items) l.replies.items);
  heeds : HeedInTurn l.fn.file (drop (length l.fn.replies.items) l.replies.items) l.file;
  given : IsTrue g.F.ReadMedium.tells → All (IsGiven (λ f. g.F.ReadMedium.read_faults f || g.F.Medium.write_faults f)) (drop (length l.fn.replies.items) l.replies.items);
  runs : IsTrue g.F.ReadMedium.tells
      → RunsLegally (λ f. g.F.ReadMedium.read_faults f || g.F.Medium.write_faults f) l.fn.file
      (map command_of (take l.command-index l.commands)) (map command_reply_of (drop (length l.fn.replies.items) l.replies.items)) l.file;
}
