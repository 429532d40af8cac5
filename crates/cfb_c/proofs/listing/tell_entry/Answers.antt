use Rattle.std.proofs.Common.{ℕ, List, chars, refl, subst}
use Rattle.std.proofs.lemmas.Result.{err_from_is_err_and}
use Rattle.cfb_commands.specs.cfb_path_changes.Answers.{Answers, AnswersNot}
use Rattle.cfb_commands.specs.cfb_rules.Calls.{entry, one_entry}
use Rattle.cfb_c.proofs.Told.{told_one}
use Rattle.cfb_c.proofs.listing.tell_entry.Goals as goal

pub returns-in_err-entry : goal.returns-in_err-entry
returns-in_err-entry c =
    let p = err_from_is_err_and c.from_residual-in_err-entry.result c.from_residual-in_err-entry.ensures.1 in
    rw (c.in-File.is, p.1, p.2, ← c.file.view_is) (record {
      made = λ _. record {
        answer = subst (λ (path : List ℕ). AnswersNot c.file.inside.inner (entry (chars path)) c.in_err-entry.field-0.0) c.in_ok-text.ensures.0 (c.in_err-entry.ensures.refused refl);
        same = refl;
      };
      wrong = λ not. absurd (not c.in_ok-text.ensures.1);
    })

pub returns : goal.returns
returns c =
    rw (c.in-File.is, ← c.file.view_is) (record {
      made = λ _. record {
        answer = told_one (entry (chars c.args.path.now)) c.info_of.result c.file.inside.inner c.in_ok-entry.entry
            (subst (λ (path : List ℕ). Answers c.file.inside.inner (entry (chars path)) (one_entry c.in_ok-entry.entry)) c.in_ok-text.ensures.0 (c.in_ok-entry.ensures.ok refl)) c.info_of.ensures;
        same = refl;
      };
      wrong = λ not. absurd (not c.in_ok-text.ensures.1);
    })
