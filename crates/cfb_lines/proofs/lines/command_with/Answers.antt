use Rattle.std.proofs.Common.{ap}
use Rattle.std.proofs.lemmas.Result.{err_from_is_err_and}
use Rattle.cfb_lines.specs.declared.word.Field.TheVariants.{Seconds}
use Rattle.cfb_lines.specs.Words.{field_behind}
use Rattle.cfb_lines.proofs.Scripts.{not_a}
use Rattle.cfb_lines.proofs.lines.command_with.Goals as goal

pub returns-in_err-moment_in-in-Mkdir-clause-wrong : goal.returns-in_err-moment_in-in-Mkdir-clause-wrong
returns-in_err-moment_in-in-Mkdir-clause-wrong g c =
    let p = err_from_is_err_and c.from_residual.result c.from_residual.ensures.1 in
    rw (p.1, p.2) (not_a Seconds c.args.word c.args.text.now c.in_err-moment_in-in-Mkdir.field-0.0 (ap field_behind c.in-Mkdir.is) c.in_err-moment_in-in-Mkdir.ensures.wrong)

pub returns-in_err-moment_in-in-Mkdirs-clause-wrong : goal.returns-in_err-moment_in-in-Mkdirs-clause-wrong
returns-in_err-moment_in-in-Mkdirs-clause-wrong g c =
    let p = err_from_is_err_and c.from_residual-in_err-moment_in-in-Mkdirs.result c.from_residual-in_err-moment_in-in-Mkdirs.ensures.1 in
    rw (p.1, p.2) (not_a Seconds c.args.word c.args.text.now c.in_err-moment_in-in-Mkdirs.field-0.0 (ap field_behind c.in-Mkdirs.is) c.in_err-moment_in-in-Mkdirs.ensures.wrong)

pub returns-in_err-moment_in-in-Touch-clause-wrong : goal.returns-in_err-moment_in-in-Touch-clause-wrong
returns-in_err-moment_in-in-Touch-clause-wrong g c =
    let p = err_from_is_err_and c.from_residual-in_err-moment_in-in-Touch.result c.from_residual-in_err-moment_in-in-Touch.ensures.1 in
    rw (p.1, p.2) (not_a Seconds c.args.word c.args.text.now c.in_err-moment_in-in-Touch.field-0.0 (ap field_behind c.in-Touch.is) c.in_err-moment_in-in-Touch.ensures.wrong)
