use Rattle.std.proofs.Common.{◌≡◌, ◌+◌, ◌<◌, ◌∙◌, ap, refl, arith, subst}
use Rattle.std.proofs.lemmas.Result.{err_from_is_err_and}
use Rattle.cfb_stream_window.specs.Contents.{IsRefusedRead, ReadsPart}
use Rattle.cfb_stream_window.specs.Answers.{IsReady}
use Rattle.cfb_stream_window.specs.Windows.{Window, window_at}
use Rattle.cfb_stream_window.proofs.Carrying.{let_go, refill_refused}
use Rattle.cfb_stream_window.proofs.Reading.{read_past}
use Rattle.cfb_stream_window.proofs.window.Window.read_past.Goals as goal

pub returns-in_err-count-clause-refused : goal.returns-in_err-count-clause-refused
returns-in_err-count-clause-refused g c = λ (h : IsReady g.C.ReadContents c.args.content.now c.args.id c.args.self.now).
    let s = g.C.ReadContents.stored c.args.content.now c.args.id in
    let w = c.args.self.now in
    let v = c.let_go.new.self in
    let is = c.let_go.ensures in
    let k = let_go s w w v w.room h.agrees c.requires.calm (omega (arith, c.requires.behind)) refl is in
    let base : v.base ≡ w.base + w.cursor = ap (λ (z : Window). z.base) is in
    let at = ap (λ (z : Window). z.base) c.self.view_is in
    let e = c.in_err-count.ensures in
    let inside : v.base < s.size = omega (arith, base, c.requires.behind, h.agrees.clean_size c.requires.calm) in
    let p = err_from_is_err_and c.from_residual.result c.from_residual.ensures.1 in
    rw (p.1, p.2) (refill_refused s _ w v _ c.in_err-count.field-0.0 k base (ap (λ (z : Window). z.ahead) is) c.requires.calm c.requires.unread (e.around h.told).same refl
    (subst (λ b. IsRefusedRead s b c.in_err-count.field-0.0) at (e.refused h.told (omega (arith, at, inside)))))

pub returns-clause-ok : goal.returns-clause-ok
returns-clause-ok g c = λ (h : IsReady g.C.ReadContents c.args.content.now c.args.id c.args.self.now).
    let s = g.C.ReadContents.stored c.args.content.now c.args.id in
    let w = c.args.self.now in
    let v = c.let_go.new.self in
    let is = c.let_go.ensures in
    let k = let_go s w w v w.room h.agrees c.requires.calm (omega (arith, c.requires.behind)) refl is in
    let base : v.base ≡ w.base + w.cursor = ap (λ (z : Window). z.base) is in
    let at = ap (λ (z : Window). z.base) c.self.view_is in
    let e = c.in_ok-count.ensures in
    let size = ap (λ (z : Window). z.size) c.self.view_is in
    let inside : v.base < s.size = omega (arith, base, c.requires.behind, h.agrees.clean_size c.requires.calm) in
    read_past s _ w v _ _ c.in_ok-count.count h.agrees k is (e.around h.told).same
    (subst (λ b. ReadsPart s.content b c.read_front.new.into c.in_ok-count.count) at (e.ok h.told (omega (arith, at, inside))))
    (omega (arith, at, size, e.most, base, c.requires.behind, ap (λ (z : Window). z.size) is))
    (c.go_outside.ensures ∙ ap (λ b. window_at (b + c.in_ok-count.count) v) at)
