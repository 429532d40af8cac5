use Rattle.std.proofs.Common.{string_bytes, take}
use Rattle.std.specs.Prelude.{IsTrue}
use Rattle.cfb_tool.proofs.Dumped.{IsDumpedUpTo}
use Rattle.cfb_tool.proofs.dumping.dump.Given as goal

abbrev pub invariant-loop-entry : goal.invariant-loop-entry
invariant-loop-entry g l =
    IsTrue g.F.ReadMedium.tells → IsDumpedUpTo l.fn.file l.file (take l.entry-index l.entry-items) (string_bytes l.initial.text) (g.W.Write.contents l.fn.out) (g.W.Write.contents l.out)
    (string_bytes l.text)
