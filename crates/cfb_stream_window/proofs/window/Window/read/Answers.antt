use Rattle.std.proofs.lemmas.Grind.{common_steps}
use Rattle.std.proofs.Common.{◌∙◌, length, arith, sym, ap, refl, rules}
use Rattle.std.proofs.lemmas.Result.{err_from_is_err_and}
use Rattle.cfb_stream_window.specs.cfb_rules.StreamCalls.{read}
use Rattle.cfb_stream_window.specs.Answers.{IsOpen, IsReady}
use Rattle.cfb_stream_window.specs.Windows.{Window}
use Rattle.cfb_stream_window.proofs.Asking.{agrees_moved}
use Rattle.cfb_stream_window.proofs.Reading.{empty_read, end_read, read_runs, past_runs, refused_read, not_empty, is_empty_from}
use Rattle.cfb_stream_window.proofs.Refusing.{failed_for, read_for}
use Rattle.cfb_stream_window.proofs.window.Window.read.Goals as goal

pub returns-then-is_failed-clause-refused : goal.returns-then-is_failed-clause-refused
returns-then-is_failed-clause-refused g c = λ _.
    failed_for _ _ _ _ _ (read (length c.args.into.now)) (sym c.is_failed.ensures ∙ c.if-is_failed.true) refl

pub returns-then-is_empty-clause-runs : goal.returns-then-is_empty-clause-runs
returns-then-is_empty-clause-runs g c = λ _.
    empty_read _ _ _ _ (sym c.is_failed.ensures ∙ c.if-is_failed.false) c.take_back.ensures c.args.into.now (is_empty_from _ (sym c.is_empty.ensures ∙ c.if-is_empty.true))

pub returns-then-position-self-clause-runs : goal.returns-then-position-self-clause-runs
returns-then-position-self-clause-runs g c = λ _.
    let size = ap (λ (z : Window). z.size) c.self.view_is in
    end_read _ _ _ _ (sym c.is_failed.ensures ∙ c.if-is_failed.false) c.take_back-then-position-self.ensures c.args.into.now (sym c.position.ensures.value ∙ c.if-position-self.true ∙ size)

pub returns-in_err-have_rest-clause-refused : goal.returns-in_err-have_rest-clause-refused
returns-in_err-have_rest-clause-refused g c = λ (h : IsOpen g.C.ReadContents c.args.content.now c.args.id c.args.self.now).
    let a = h.suits (sym c.is_failed.ensures ∙ c.if-is_failed.false) in
    let r : IsReady g.C.ReadContents c.args.content.now c.args.id c.args.self.now = record { told = h.told; agrees = a } in
    let size = ap (λ (z : Window). z.size) c.self.view_is in
    let e = c.in_err-have_rest.ensures in
    let some = not_empty _ (sym c.is_empty.ensures ∙ c.if-is_empty.false) in
    let p = err_from_is_err_and c.from_residual-in_err-have_rest.result c.from_residual-in_err-have_rest.ensures.1 in
    rw (p.1, p.2) (read_for _ _ _ _ _ _ _ _ _
    (refused_read _ _ _ _ _ _ _ _ _ a (omega (arith, size)) (e.writes.around h.told).counts (e.refused r) (length c.args.into.now) some) _ (λ calm. (e.calm h.told calm).kept) (e.refused r))

pub returns-clause-runs : goal.returns-clause-runs
returns-clause-runs g c = λ (h : IsOpen g.C.ReadContents c.args.content.now c.args.id c.args.self.now).
    let a = h.suits (sym c.is_failed.ensures ∙ c.if-is_failed.false) in
    let r : IsReady g.C.ReadContents c.args.content.now c.args.id c.args.self.now = record { told = h.told; agrees = a } in
    let size = ap (λ (z : Window). z.size) c.self.view_is in
    let some = not_empty _ (sym c.is_empty.ensures ∙ c.if-is_empty.false) in
    let had = c.in_ok-have_rest.ensures in
    read_runs _ _ _ _ _ _ a.unfailed (had.ok r) (omega (arith, size)) c.serve.new.into (length c.args.into.now) c.serve.result (omega (arith, had.some r, some)) (omega arith) (omega (arith, had.some r)) c.serve.ensures.bytes c.serve.ensures.window

pub returns-in_err-count-clause-refused : goal.returns-in_err-count-clause-refused
returns-in_err-count-clause-refused g c = λ (h : IsOpen g.C.ReadContents c.args.content.now c.args.id c.args.self.now).
    let a = h.suits (sym c.is_failed.ensures ∙ c.if-is_failed.false) in
    let r : IsReady g.C.ReadContents c.args.content.now c.args.id c.args.self.now = record { told = h.told; agrees = a } in
    let size = ap (λ (z : Window). z.size) c.self.view_is in
    let e = c.in_err-count.ensures in
    let some = not_empty _ (sym c.is_empty.ensures ∙ c.if-is_empty.false) in
    let p = err_from_is_err_and c.from_residual.result c.from_residual.ensures.1 in
    rw (p.1, p.2) (read_for _ _ _ _ _ _ _ _ _
    (refused_read _ _ _ _ _ _ _ _ _ a (omega (arith, size)) (e.writes.around h.told).counts (e.refused r) (length c.args.into.now) some) _ (λ calm. (e.calm h.told calm).kept) (e.refused r))

pub returns-then-not-has_rest-clause-runs : goal.returns-then-not-has_rest-clause-runs
returns-then-not-has_rest-clause-runs g c = λ (h : IsOpen g.C.ReadContents c.args.content.now c.args.id c.args.self.now).
    let a = h.suits (sym c.is_failed.ensures ∙ c.if-is_failed.false) in
    let r : IsReady g.C.ReadContents c.args.content.now c.args.id c.args.self.now = record { told = h.told; agrees = a } in
    let size = ap (λ (z : Window). z.size) c.self.view_is in
    let e = c.in_ok-count.ensures in
    past_runs _ _ _ _ _ _ a.unfailed (omega (arith, size)) (length c.args.into.now) c.in_ok-count.count (omega (arith, e.most)) (e.ok r)

pub returns-clause-open : goal.returns-clause-open
returns-clause-open g c = record {
  there = first_of (search rules, grind (arith, common_steps));
  flags = first_of (search rules, grind (arith, common_steps));
  goes_on = (
      λ (h : IsOpen g.C.ReadContents c.args.content.now c.args.id c.args.self.now).
      let a = h.suits (sym c.is_failed.ensures ∙ c.if-is_failed.false) in
      let had = c.in_ok-have_rest.ensures in
      let k = had.ok (record { told = h.told; agrees = a }) in
      record {
        is_open = record { told = (had.writes.around h.told).told; suits = λ _. agrees_moved _ _ _ _ _ k.agrees c.serve.ensures.window };
        limit = k.limit;
        sound = k.sound;
      }
      );
  bound = first_of (search rules, grind (arith, common_steps));
}

pub returns-in_err-have_rest-clause-open : goal.returns-in_err-have_rest-clause-open
returns-in_err-have_rest-clause-open g c = record {
  there = first_of (search rules, grind (arith, common_steps));
  flags = first_of (search rules, grind (arith, common_steps));
  goes_on = first_of (search rules, grind (arith, common_steps));
  bound = first_of (search rules, grind (arith, common_steps));
}
