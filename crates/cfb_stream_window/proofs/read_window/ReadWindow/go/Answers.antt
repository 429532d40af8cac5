use Rattle.std.proofs.Common.{◌+◌, ◌∙◌, refl, ap, sym, arith}
use Rattle.cfb_stream_window.specs.Contents.{Stored}
use Rattle.cfb_stream_window.specs.Windows.{Window, LiesOver, window_at}
use Rattle.cfb_stream_window.proofs.Carrying.{let_go}
use Rattle.cfb_stream_window.proofs.Reading.{went}
use Rattle.cfb_stream_window.proofs.read_window.ReadWindow.go.Goals as goal

pub returns-else-holds-clause-went : goal.returns-else-holds-clause-went
returns-else-holds-clause-went g c = λ (s : Stored) (a : LiesOver s c.args.self.now).
    let w = c.args.self.now in
    let calm = sym (ap (λ (z : Window). z.pending) c.self.view_is) ∙ c.self.invariant in
    went s s w _ _ c.args.at (let_go s w w _ w.room a calm (omega (arith, c.position-at.ensures.inside, ap (λ (z : Window). z.base + z.cursor) c.self.view_is, ap (λ (z : Window). z.size) c.self.view_is)) refl refl) refl refl c.requires.inside
    (c.go_outside.ensures ∙ ap (λ (z : Window). window_at c.args.at z) c.self.view_is)
