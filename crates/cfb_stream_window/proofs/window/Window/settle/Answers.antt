use Rattle.cfb_stream_window.specs.Answers.{IsReady}
use Rattle.cfb_stream_window.proofs.Carrying.{flushed_to}
use Rattle.cfb_stream_window.proofs.window.Window.settle.Goals as goal

pub returns-clause-ok : goal.returns-clause-ok
returns-clause-ok g c = λ (h : IsReady g.C.ReadContents c.args.content.now c.args.id c.args.self.now).
    let out = c.in_ok-write_out.ensures in
    flushed_to _ _ _ _ h.agrees c.position-at.ensures.filled (out.ok h) out.window
