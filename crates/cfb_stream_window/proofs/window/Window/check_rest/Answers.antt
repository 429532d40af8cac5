use Rattle.std.proofs.Common.{◌∙◌, sym, ap}
use Rattle.cfb_stream_window.specs.Answers.{IsReady}
use Rattle.cfb_stream_window.specs.Windows.{Window}
use Rattle.cfb_stream_window.proofs.Ending.{pending_readable}
use Rattle.cfb_stream_window.proofs.window.Window.check_rest.Goals as goal

pub returns-then-self-clause-ok : goal.returns-then-self-clause-ok
returns-then-self-clause-ok g c = λ (h : IsReady g.C.ReadContents c.args.content.now c.args.id c.args.self.now).
    pending_readable _ _ h.agrees (ap (λ (z : Window). z.pending) (sym c.self.view_is) ∙ c.if-self.true)
