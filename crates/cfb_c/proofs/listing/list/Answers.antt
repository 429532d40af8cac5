use Rattle.std.proofs.Common.{ℕ, List, chars, inl, refl, subst}
use Rattle.std.proofs.lemmas.Result.{err_from_is_err_and}
use Rattle.cfb_commands.specs.cfb_path_changes.Answers.{Answers, AnswersNot}
use Rattle.cfb_commands.specs.cfb_rules.Calls.{entries, read_storage}
use Rattle.cfb_listing.specs.Left.{entries_left}
use Rattle.cfb_c.proofs.Told.{holds_list}
use Rattle.cfb_c.proofs.listing.list.Goals as goal

pub returns-in_err-read_storage : goal.returns-in_err-read_storage
returns-in_err-read_storage c =
    let p = err_from_is_err_and c.from_residual-in_err-read_storage.result c.from_residual-in_err-read_storage.ensures.1 in
    rw (c.in-File.is, p.1, p.2, ← c.file.view_is) (record {
      made = λ _. record {
        answer = inl (subst (λ (path : List ℕ). AnswersNot c.file.inside.inner (read_storage (chars path)) c.in_err-read_storage.field-0.0) c.in_ok-text.ensures.0 (c.in_err-read_storage.ensures.refused refl), refl);
        same = refl;
      };
      wrong = λ not. absurd (not c.in_ok-text.ensures.1);
    })

pub returns : goal.returns
returns c =
    rw (c.in-File.is, ← c.file.view_is) (record {
      made = λ _. record {
        answer = holds_list (read_storage (chars c.args.path.now)) c.file.inside.inner (entries_left c.in_ok-read_storage.field-0)
            (subst (λ (path : List ℕ). Answers c.file.inside.inner (read_storage (chars path)) (entries (entries_left c.in_ok-read_storage.field-0))) c.in_ok-text.ensures.0 (c.in_ok-read_storage.ensures.ok refl))
            c.in_ok-listed.listed.items c.keep_list.new.entries.value c.in_ok-listed.ensures c.in_ok-keep_list.ensures;
        same = refl;
      };
      wrong = λ not. absurd (not c.in_ok-text.ensures.1);
    })
