use Rattle.std.proofs.lemmas.Result.{err_from_is_err_and}
use Rattle.std.specs.Prelude.{chars}
use Rattle.cfb_compound_file.specs.cfb_rules.Calls.{walk_storage}
use Rattle.cfb_compound_file.proofs.Asked.{refused-at-path, walk-looks}
use Rattle.cfb_compound_file.proofs.compound_file.CompoundFile.number_at.Goals as goal

pub returns-in_err-number-clause-refused : goal.returns-in_err-number-clause-refused
returns-in_err-number-clause-refused g c = λ told.
    let p = err_from_is_err_and c.from_residual.result c.from_residual.ensures.1 in
    rw (p.1, p.2) (refused-at-path c.args.self.now (walk_storage (chars c.args.path.now)) (chars c.args.path.now) _ (walk-looks (chars c.args.path.now)) (c.in_err-number.ensures.agrees told) c.in_err-number.ensures.refused)
