use Rattle.std.proofs.lemmas.Result.{err_from_is_err_and}
use Rattle.std.proofs.Common.{refl}
use Rattle.std.specs.Prelude.{chars}
use Rattle.cfb_compound_file.specs.cfb_rules.Calls.{entry}
use Rattle.cfb_compound_file.proofs.Asked.{entry-looks, refused-at-path}
use Rattle.cfb_compound_file.proofs.RefusedKinds.{finding_asks, memory_asks}
use Rattle.cfb_compound_file.proofs.Numbers.{memory-refused, ok-then}
use Rattle.cfb_compound_file.proofs.Told.{entry-answered}
use Rattle.cfb_compound_file.proofs.compound_file.CompoundFile.entry.Goals as goal

pub returns-in_err-names-clause-refused : goal.returns-in_err-names-clause-refused
returns-in_err-names-clause-refused g c = λ told.
    let p = err_from_is_err_and c.from_residual.result c.from_residual.ensures.1 in
    rw (p.1, p.2) (refused-at-path c.args.self.now (entry (chars c.args.path.now)) (chars c.args.path.now) _ (entry-looks (chars c.args.path.now)) (c.in_err-names.ensures.agrees told) c.in_err-names.ensures.refused)

pub returns-clause-ok : goal.returns-clause-ok
returns-clause-ok g c = λ told. ok-then _ _ c.told_at.result
    (λ info is. entry-answered c.args.self.now (c.in_ok-names.ensures.agrees told) (chars c.args.path.now) _ _ c.in_ok-names.ensures.names c.in_ok-names.ensures.number info is)
    (rw c.deref.ensures.value at c.told_at.ensures.ok)

pub returns-clause-refused : goal.returns-clause-refused
returns-clause-refused g c = λ told. memory-refused c.args.self.now (entry (chars c.args.path.now)) c.told_at.result refl c.told_at.ensures.err

pub returns-in_err-names-clause-kinds : goal.returns-in_err-names-clause-kinds
returns-in_err-names-clause-kinds g c =
    let p = err_from_is_err_and c.from_residual.result c.from_residual.ensures.1 in
    rw (p.1, p.2) (finding_asks c.args.self.now (chars c.args.path.now) c.in_err-names.field-0.0 c.in_err-names.ensures.refused)

pub returns-clause-kinds : goal.returns-clause-kinds
returns-clause-kinds g c = memory_asks c.told_at.result c.told_at.ensures.err
