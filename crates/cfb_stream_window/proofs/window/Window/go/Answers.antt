use Rattle.std.proofs.Common.{ap}
use Rattle.cfb_stream_window.specs.Answers.{IsReady}
use Rattle.cfb_stream_window.specs.Windows.{Window}
use Rattle.cfb_stream_window.proofs.Reading.{went}
use Rattle.cfb_stream_window.proofs.window.Window.go.Goals as goal

pub returns-clause-ok : goal.returns-clause-ok
returns-clause-ok g c = λ (h : IsReady g.C.ReadContents c.args.content.now c.args.id c.args.self.now).
    let left = c.in_ok-leave.ensures in
    went _ _ _ _ _ c.args.at (left.ok h) (ap (λ (z : Window). z.filled) left.window) (ap (λ (z : Window). z.pending) left.window) c.requires.inside c.go_outside.ensures
