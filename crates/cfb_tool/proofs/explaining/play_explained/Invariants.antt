use Rattle.std.proofs.Common.{◌≡◌, ◌≤◌, ◌+◌, ◌*◌, length, map, take, vec_capacity}
use Rattle.std.specs.Prelude.{◌||◌}
use Rattle.cfb_commands.specs.Commands.{command_of}
use Rattle.cfb_tool.specs.Playing.{ArePlayed, placed}
use Rattle.cfb_tool.proofs.Explained.{AreToldUpTo}
use Rattle.cfb_tool.proofs.explaining.play_explained.Given as goal

abbrev pub invariant-loop-at : goal.invariant-loop-at
invariant-loop-at g l = record {
  played : ArePlayed g.F.ReadMedium.tells (λ f. g.F.ReadMedium.read_faults f || g.F.Medium.write_faults f) l.fn.file
      (map command_of (take l.at l.commands)) l.fn.lines.items l.lines.items l.is_done l.file;
  count : length l.lines.items ≡ length l.fn.lines.items + 3 * l.at;
  room : vec_capacity l.lines ≡ vec_capacity l.fn.lines;
  reply : 1 ≤ vec_capacity l.replies;
  told : AreToldUpTo l.fn.lines.items l.lines.items (map placed l.refusals.items) l.at;
  few : length l.refusals.items ≤ l.at;
  kept : vec_capacity l.refusals ≡ vec_capacity l.fn.refusals;
}
