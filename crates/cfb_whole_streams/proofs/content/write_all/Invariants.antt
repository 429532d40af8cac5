use Rattle.std.proofs.Common.{◌≡◌, length}
use Rattle.std.specs.Prelude.{◌||◌, IsTrue}
use Rattle.cfb_whole_streams.specs.cfb_compound_file.Streams.{file_of, open_of}
use Rattle.cfb_whole_streams.proofs.WholeWrites.{IsBegun}
use Rattle.cfb_whole_streams.proofs.content.write_all.Given as goal

abbrev pub invariant-loop-rest : goal.invariant-loop-rest
invariant-loop-rest g l = record {
  same_file : (file_of l.stream).ghost_name ≡ (file_of l.fn.stream).ghost_name;
  begun : IsTrue g.F.ReadMedium.tells
      → IsBegun (λ f. g.F.ReadMedium.read_faults f || g.F.Medium.write_faults f) (open_of l.fn.stream) l.bytes l.rest (open_of l.stream);
}

abbrev pub decreases-loop-rest : goal.decreases-loop-rest
decreases-loop-rest g l = length l.rest
