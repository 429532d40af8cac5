use Rattle.std.proofs.Common.{ℕ, List, chars, refl, subst}
use Rattle.cfb_commands.specs.cfb_path_changes.Answers.{Answers}
use Rattle.cfb_commands.specs.cfb_rules.Calls.{is_storage, flag}
use Rattle.cfb_c.proofs.asking.tell_storage.Goals as goal

pub returns : goal.returns
returns c =
    rw (c.in-File.is, ← c.file.view_is) (record {
      made = λ _. record {
        answer = subst (λ (path : List ℕ). Answers c.file.inside.inner (is_storage (chars path)) (flag c.is_storage.result)) c.in_ok-text.ensures.0 (c.is_storage.ensures.asks refl);
        same = refl;
      };
      wrong = λ not. absurd (not c.in_ok-text.ensures.1);
    })
