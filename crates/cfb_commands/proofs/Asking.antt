-- Questions, as commands answer them.
use Rattle.std.proofs.Common.{◌≡◌, refl, subst}
use Rattle.std.specs.Prelude.{Err, IfErr, IfOk, Ok, Result}
use Rattle.cfb_format.specs.declared.error.Error.{Error}
use Rattle.cfb_format.specs.declared.error.Error.TheVariants.{Memory}
use Rattle.cfb_commands.specs.cfb_rules.Calls.{Call, Reply, refused}
use Rattle.cfb_commands.specs.cfb_rules.Refusal.{Refusal, out_of_memory}
use Rattle.cfb_commands.specs.cfb_rules.Steps.{asking, kind_of}
use Rattle.cfb_commands.specs.cfb_agreement.Files.{FileState}
use Rattle.cfb_commands.specs.cfb_path_changes.Answers.{Answers, AnswersNot}
use Rattle.cfb_compound_file.proofs.Asked.{refused-for-memory}
use Rattle.cfb_commands.specs.Commands.{call_answer, refusal_of_error}
use Rattle.cfb_commands.proofs.Errors.{known}

-- a question that was refused is answered so
pub not_answered : (file : FileState) (call : Call) (e : Error) → AnswersNot file call e → Answers file call (refused (refusal_of_error e))
not_answered file call e why = subst (λ (r : Refusal). Answers file call (refused r)) (known why.0 e why.1) why.2

pub memory_answers : (file : FileState) (call : Call) → kind_of call ≡ asking → Answers file call (refused out_of_memory)
memory_answers file call kind = not_answered file call Memory (refused-for-memory file call Memory kind refl)

-- and so is one whose result is handed on
pub asked : {T : Type 0} (file : FileState) (call : Call) (answer : T → Reply) (result : Result T Error) → IfOk result (λ x. Answers file call (answer x)) → IfErr result (AnswersNot file call)
    → Answers file call (call_answer answer result)
asked file call answer (Ok x) answers not = answers
asked file call answer (Err e) answers not = not_answered file call e not
