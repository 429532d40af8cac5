use Rattle.std.proofs.Common.{◌∙◌, sym, refl, inl}
use Rattle.std.proofs.lemmas.Result.{err_from_is_err_and}
use Rattle.cfb_stream_window.specs.cfb_rules.StreamCalls.{seek}
use Rattle.cfb_stream_window.specs.Answers.{IsOpen, IsReady}
use Rattle.cfb_stream_window.specs.Windows.{whence_of}
use Rattle.cfb_stream_window.proofs.Breaking.{lost_moving}
use Rattle.cfb_stream_window.proofs.Reading.{leads_within, nowhere_runs, went_runs}
use Rattle.cfb_stream_window.proofs.Refusing.{failed_for, lost_for}
use Rattle.cfb_stream_window.proofs.window.Window.seek.Goals as goal

pub returns-then-is_failed-clause-refused : goal.returns-then-is_failed-clause-refused
returns-then-is_failed-clause-refused g c = λ _.
    failed_for _ _ _ _ _ (seek (whence_of c.args.to)) (sym c.is_failed.ensures ∙ c.if-is_failed.true) refl

pub returns-in_default-clause-refused : goal.returns-in_default-clause-refused
returns-in_default-clause-refused g c = λ _.
    record {
      rules = nowhere_runs _ _ _ c.args.to c.text.result (sym c.is_failed.ensures ∙ c.if-is_failed.false) c.in_default.ensures.value;
      stops = inl refl;
      untouched = (refl, refl);
    }

pub returns-in_err-go-clause-refused : goal.returns-in_err-go-clause-refused
returns-in_err-go-clause-refused g c = λ (h : IsOpen g.C.ReadContents c.args.content.now c.args.id c.args.self.now).
    let f = sym c.is_failed.ensures ∙ c.if-is_failed.false in
    let r : IsReady g.C.ReadContents c.args.content.now c.args.id c.args.self.now = record { told = h.told; agrees = h.suits f } in
    let e = c.in_err-go.ensures in
    let p = err_from_is_err_and c.from_residual.result c.from_residual.ensures.1 in
    rw (p.1, p.2) (lost_for _ _ _ _ _ _ _ _ _ (lost_moving _ _ _ _ _ _ _ _ (seek (whence_of c.args.to)) _ refl f (leads_within (g.C.ReadContents.stored c.args.content.now c.args.id) c.args.self.now c.args.to _ c.in-Some.ensures.value) (e.writes.around h.told).counts (e.refused r)) _ (e.refused r))

pub returns-clause-runs : goal.returns-clause-runs
returns-clause-runs g c = λ (h : IsOpen g.C.ReadContents c.args.content.now c.args.id c.args.self.now).
    let f = sym c.is_failed.ensures ∙ c.if-is_failed.false in
    let r : IsReady g.C.ReadContents c.args.content.now c.args.id c.args.self.now = record { told = h.told; agrees = h.suits f } in
    went_runs _ _ _ _ _ c.args.to _ f c.in-Some.ensures.value (c.in_ok-go.ensures.ok r)
