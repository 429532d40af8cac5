use Rattle.std.proofs.Common.{◌≡◌, string_bytes}
use Rattle.std.specs.Prelude.{IsTrue}
use Rattle.cfb_tool.specs.cfb_compound_file.ReadStreams.{file_of, open_of}
use Rattle.cfb_tool.specs.cfb_compound_file.Stored.{kept_of}
use Rattle.cfb_tool.specs.cfb_compound_file.StreamAnswers.{run_in, stream_in}
use Rattle.cfb_tool.specs.Sending.{IsAtStart}
use Rattle.cfb_tool.proofs.Digits.{SendsAlong}
use Rattle.cfb_tool.proofs.dumping.write_digits.Given as goal

abbrev pub invariant-loop-left : goal.invariant-loop-left
invariant-loop-left g l = record {
  same_file : (file_of l.stream).ghost_name ≡ (file_of l.fn.stream).ghost_name;
  kept : IsTrue g.F.ReadMedium.tells → kept_of (file_of l.stream).now ≡ kept_of (file_of l.fn.stream).now;
  along : IsTrue g.F.ReadMedium.tells → IsAtStart (open_of l.fn.stream)
      → SendsAlong (stream_in (open_of l.fn.stream)) (run_in (open_of l.stream)) l.left (g.W.Write.contents l.fn.out) (g.W.Write.contents l.out) (string_bytes l.fn.text) (string_bytes l.text);
}

abbrev pub decreases-loop-left : goal.decreases-loop-left
decreases-loop-left g l = l.left
