use Rattle.std.proofs.Common.{ap, sym}
use Rattle.cfb_agreement.specs.Files.{FileState, is_failed}
use Rattle.cfb_stream_window.specs.Windows.{run_of}
use Rattle.cfb_compound_file.specs.Stored.{stored_of}
use Rattle.cfb_compound_file.proofs.StreamCalls.{read_closes, refused_then}
use Rattle.cfb_compound_file.proofs.read_stream.ReadStream+F+A.close.Goals as goal

pub returns-clause-closes : goal.returns-clause-closes
returns-clause-closes g c = read_closes _ (run_of (stored_of c.args.self.file.now c.args.self.entry) c.args.self.window) c.leave.result _
    (sym (ap (λ (z : FileState). is_failed z) c.leave.ensures.same)) c.leave.ensures.ok (refused_then _ _ c.leave.result c.leave.ensures.failed (λ e why. why.1))
