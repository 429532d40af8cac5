use Rattle.std.proofs.Common.{refl}
use Rattle.std.proofs.lemmas.Result.{err_from_is_err_and}
use Rattle.cfb_format.specs.declared.error.Error.TheVariants.{Memory}
use Rattle.cfb_rules.specs.Calls.{walk}
use Rattle.cfb_tool.proofs.cfb_compound_file.Asked.{refused-for-memory}
use Rattle.cfb_tool.proofs.listing.walked.Goals as goal

pub returns-in_err-clone-clause-refused : goal.returns-in_err-clone-clause-refused
returns-in_err-clone-clause-refused g c =
    let p = err_from_is_err_and c.from_residual-in_err-clone.result c.from_residual-in_err-clone.ensures.1 in
    rw (p.1, p.2) (λ told. refused-for-memory c.args.file.now walk Memory refl refl)

pub returns-in_err-collect-clause-refused : goal.returns-in_err-collect-clause-refused
returns-in_err-collect-clause-refused g c =
    let p = err_from_is_err_and c.from_residual-in_err-collect.result c.from_residual-in_err-collect.ensures.1 in
    rw (p.1, p.2) (λ told. refused-for-memory c.args.file.now walk Memory refl refl)
