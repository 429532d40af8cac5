use Rattle.std.proofs.Common.{chars, refl}
use Rattle.std.proofs.lemmas.Result.{err_from_is_err_and}
use Rattle.cfb_commands.specs.cfb_rules.Calls.{walk_storage}
use Rattle.cfb_commands.proofs.Asking.{memory_answers}
use Rattle.cfb_commands.proofs.queries.walk_list.Goals as goal

pub returns-in_err-clone-clause-answers : goal.returns-in_err-clone-clause-answers
returns-in_err-clone-clause-answers g c =
    let p = err_from_is_err_and c.from_residual-in_err-clone.result c.from_residual-in_err-clone.ensures.1 in
    rw (p.1, p.2) (λ told. memory_answers c.args.file.now (walk_storage (chars c.args.path.now)) refl)

pub returns-in_err-collect-clause-answers : goal.returns-in_err-collect-clause-answers
returns-in_err-collect-clause-answers g c =
    let p = err_from_is_err_and c.from_residual-in_err-collect.result c.from_residual-in_err-collect.ensures.1 in
    rw (p.1, p.2) (λ told. memory_answers c.args.file.now (walk_storage (chars c.args.path.now)) refl)

pub returns-in_err-clone-clause-kinds : goal.returns-in_err-clone-clause-kinds
returns-in_err-clone-clause-kinds g c =
    let p = err_from_is_err_and c.from_residual-in_err-clone.result c.from_residual-in_err-clone.ensures.1 in
    rw (p.1, p.2) tt

pub returns-in_err-collect-clause-kinds : goal.returns-in_err-collect-clause-kinds
returns-in_err-collect-clause-kinds g c =
    let p = err_from_is_err_and c.from_residual-in_err-collect.result c.from_residual-in_err-collect.ensures.1 in
    rw (p.1, p.2) tt
