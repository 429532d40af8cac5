use Rattle.std.proofs.Common.{◌≡◌, length}
use Rattle.std.specs.Prelude.{◌||◌}
use Rattle.cfb_compound_file.specs.Streams.{file_of, open_of}
use Rattle.cfb_compound_file.proofs.Writing.{IsBegun}
use Rattle.cfb_compound_file.proofs.stream.Stream+F+A.write_all.Given as goal

abbrev pub invariant-loop-rest : goal.invariant-loop-rest
invariant-loop-rest g l = record {
  same_file : (file_of l.self).ghost_name ≡ (file_of l.fn.self).ghost_name;
  begun : IsBegun g.F.ReadMedium.tells (λ f. g.F.ReadMedium.read_faults f || g.F.Medium.write_faults f) (open_of l.fn.self) l.bytes l.rest (open_of l.self);
}

abbrev pub decreases-loop-rest : goal.decreases-loop-rest
decreases-loop-rest g l = length l.rest
