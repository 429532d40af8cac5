use Rattle.std.proofs.Common.{◌∙◌, sym, subst, refl, ℕ, inr}
use Rattle.std.proofs.lemmas.Result.{err_from_is_err_and}
use Rattle.cfb_format.specs.Refused.{CountsError}
use Rattle.cfb_stream_window.specs.cfb_rules.StreamCalls.{flush}
use Rattle.cfb_stream_window.specs.Answers.{IsOpen, IsReady}
use Rattle.cfb_stream_window.specs.Touched.{faults_of}
use Rattle.cfb_stream_window.proofs.Breaking.{lost_flushing, flush_broken, fault_is, break_untouched}
use Rattle.cfb_stream_window.proofs.Reading.{flushed_runs}
use Rattle.cfb_stream_window.proofs.Refusing.{failed_for, lost_for}
use Rattle.cfb_stream_window.proofs.window.Window.flush.Goals as goal

pub returns-then-is_failed-clause-refused : goal.returns-then-is_failed-clause-refused
returns-then-is_failed-clause-refused g c = λ _.
    failed_for _ _ _ _ _ flush (sym c.is_failed.ensures ∙ c.if-is_failed.true) refl

pub returns-in_err-settle-clause-refused : goal.returns-in_err-settle-clause-refused
returns-in_err-settle-clause-refused g c = λ (h : IsOpen g.C.ReadContents c.args.content.now c.args.id c.args.self.now).
    let f = sym c.is_failed.ensures ∙ c.if-is_failed.false in
    let r : IsReady g.C.ReadContents c.args.content.now c.args.id c.args.self.now = record { told = h.told; agrees = h.suits f } in
    let e = c.in_err-settle.ensures in
    let p = err_from_is_err_and c.from_residual.result c.from_residual.ensures.1 in
    rw (p.1, p.2) (lost_for _ _ _ _ _ _ _ _ _ (lost_flushing _ _ _ _ _ _ _ _ flush _ refl f tt (e.writes.around h.told).counts (e.refused r)) _ (e.refused r))

pub returns-clause-runs : goal.returns-clause-runs
returns-clause-runs g c = λ (h : IsOpen g.C.ReadContents c.args.content.now c.args.id c.args.self.now).
    let f = sym c.is_failed.ensures ∙ c.if-is_failed.false in
    let r : IsReady g.C.ReadContents c.args.content.now c.args.id c.args.self.now = record { told = h.told; agrees = h.suits f } in
    let done = c.in_ok-settle.ensures in
    let k = done.ok r in
    flushed_runs _ _ _ _ _ _ (h.suits f) k done.window (c.in_ok-flush.ensures.ok (done.writes.around h.told).told k.agrees.unfailed)

pub returns-in_err-flush-clause-refused : goal.returns-in_err-flush-clause-refused
returns-in_err-flush-clause-refused g c = λ (h : IsOpen g.C.ReadContents c.args.content.now c.args.id c.args.self.now).
    let f = sym c.is_failed.ensures ∙ c.if-is_failed.false in
    let r : IsReady g.C.ReadContents c.args.content.now c.args.id c.args.self.now = record { told = h.told; agrees = h.suits f } in
    let done = c.in_ok-settle.ensures in
    let e = c.in_err-flush.ensures in
    let told = (done.writes.around h.told).told in
    let k = done.ok r in
    let why = e.refused told k.agrees.unfailed in
    let counts = subst (λ (m : ℕ). CountsError (faults_of g.C.ReadContents g.C.Contents) m (g.C.ReadContents.failures c.flush.new.self) c.in_err-flush.field-0.0) (done.writes.around h.told).counts (e.counts told) in
    let p = err_from_is_err_and c.from_residual-in_err-flush.result c.from_residual-in_err-flush.ensures.1 in
    rw (p.1, p.2) (record {
      rules = flush_broken _ _ _ _ _ _ _ _ flush _ refl f tt counts why.0 why.1.is_failed;
      stops = inr (record { is_failed = why.1.is_failed; same_limit = why.1.same_limit ∙ k.limit; same_sound = why.1.same_sound ∙ k.sound });
      untouched = break_untouched ⊥ _ _ _ (fault_is _ why.0);
    })
