use Rattle.std.proofs.Common.{◌≡◌, ◌≤◌, ◌-◌, ◌+◌, length}
use Rattle.cfb_commands.specs.cfb_compound_file.ReadStreams.{file_of as read_file_of, open_of}
use Rattle.cfb_commands.specs.cfb_compound_file.StreamAnswers.{stream_in}
use Rattle.cfb_c.specs.Pieces.{HasRead, StandsIn}
use Rattle.cfb_c.proofs.streams.fill_from.Given as goal

abbrev pub invariant-loop-count : goal.invariant-loop-count
invariant-loop-count g l = record {
  same_file : (read_file_of l.stream).ghost_name ≡ (read_file_of l.fn.stream).ghost_name;
  same : (read_file_of l.stream).now ≡ (read_file_of l.fn.stream).now;
  inside : l.count ≤ length l.into;
  stands : StandsIn (stream_in (open_of l.fn.stream)) (l.fn.at + l.count) (stream_in (open_of l.stream));
  read : HasRead (stream_in (open_of l.fn.stream)) l.fn.at l.count l.into;
}

abbrev pub decreases-loop-count : goal.decreases-loop-count
decreases-loop-count g l = length l.into - l.count
