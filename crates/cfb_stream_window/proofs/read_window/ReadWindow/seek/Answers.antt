use Rattle.std.proofs.Common.{◌+◌, ◌∙◌, ap, sym, refl, inl}
use Rattle.cfb_stream_window.specs.cfb_rules.StreamCalls.{seek}
use Rattle.cfb_stream_window.specs.Answers.{IsOpen}
use Rattle.cfb_stream_window.specs.Windows.{Window, target_of, whence_of}
use Rattle.cfb_stream_window.proofs.Reading.{nowhere_runs, went_runs}
use Rattle.cfb_stream_window.proofs.Refusing.{failed_for}
use Rattle.cfb_stream_window.proofs.read_window.ReadWindow.seek.Goals as goal

pub returns-then-is_failed-clause-refused : goal.returns-then-is_failed-clause-refused
returns-then-is_failed-clause-refused g c = λ _.
    failed_for _ _ _ _ _ (seek (whence_of c.args.to)) (sym c.is_failed.ensures ∙ c.if-is_failed.true) refl

pub returns-in_default-clause-refused : goal.returns-in_default-clause-refused
returns-in_default-clause-refused g c = λ _.
    record {
      rules = nowhere_runs _ _ _ c.args.to c.text.result (sym c.is_failed.ensures ∙ c.if-is_failed.false) (c.in_default.ensures.value ∙ ap (λ (z : Window). target_of z.size (z.base + z.cursor) c.args.to) c.self.view_is);
      stops = inl refl;
      untouched = (refl, refl);
    }

pub returns-clause-runs : goal.returns-clause-runs
returns-clause-runs g c = λ (h : IsOpen g.C.ReadContents c.args.content.now c.args.id c.args.self.now).
    let f = sym c.is_failed.ensures ∙ c.if-is_failed.false in
    went_runs _ _ _ _ _ c.args.to _ f (c.in-Some.ensures.value ∙ ap (λ (z : Window). target_of z.size (z.base + z.cursor) c.args.to) c.self.view_is) (c.go.ensures.went _ (h.suits f))
