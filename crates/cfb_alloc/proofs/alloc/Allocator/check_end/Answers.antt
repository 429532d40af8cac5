use Rattle.std.proofs.Common.{sym, subst, ℕ}
use Rattle.std.proofs.lemmas.Result.{err_from_is_err_and}
use Rattle.cfb_tables.specs.Refused.{NextRefused}
use Rattle.cfb_alloc.proofs.ListedLemmas.{end_refused, shown_last}
use Rattle.cfb_alloc.proofs.alloc.Allocator.check_end.Goals as goal

pub returns-in_err-next-clause-err : goal.returns-in_err-next-clause-err
returns-in_err-next-clause-err g c =
    let p = err_from_is_err_and c.from_residual.result c.from_residual.ensures.1 in
    let fat = c.args.self.now.tables.fat in
    let ids = c.args.ids.now in
    let error = c.in_err-next.field-0.0 in
    let last = shown_last ids c.in-Some.last.now (sym c.in-Some.ensures.value) in
    rw (p.1, p.2) (end_refused ⊥ ⊥ ⊥ fat ids error last.0
    (subst (λ (i : ℕ). NextRefused fat i error) (sym last.1) (rw (← c.self.view_is) c.in_err-next.ensures.err)))
