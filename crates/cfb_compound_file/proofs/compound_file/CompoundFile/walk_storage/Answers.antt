use Rattle.std.proofs.lemmas.Result.{err_from_is_err_and}
use Rattle.std.proofs.Common.{refl}
use Rattle.std.specs.Prelude.{chars}
use Rattle.cfb_compound_file.specs.cfb_rules.Calls.{walk_storage}
use Rattle.cfb_listing.specs.Left.{entries_left}
use Rattle.cfb_compound_file.proofs.Asked.{refused-at-path, walk-looks}
use Rattle.cfb_path_changes.proofs.Numbers.{map-split, says-none}
use Rattle.cfb_compound_file.proofs.RefusedKinds.{finding_asks, memory_asks}
use Rattle.cfb_compound_file.proofs.Numbers.{memory-refused, ok-then}
use Rattle.cfb_compound_file.proofs.Told.{walk-at-root, walk-storage-answered}
use Rattle.cfb_compound_file.proofs.compound_file.CompoundFile.walk_storage.Goals as goal

pub returns-in_err-names-clause-refused : goal.returns-in_err-names-clause-refused
returns-in_err-names-clause-refused g c = λ told.
    let p = err_from_is_err_and c.from_residual.result c.from_residual.ensures.1 in
    rw (p.1, p.2) (refused-at-path c.args.self.now (walk_storage (chars c.args.path.now)) (chars c.args.path.now) _ (walk-looks (chars c.args.path.now)) (c.in_err-names.ensures.agrees told) c.in_err-names.ensures.refused)

pub returns-in_default-clause-ok : goal.returns-in_default-clause-ok
returns-in_default-clause-ok g c = λ told. ok-then _ _ c.walk_root.result
    (λ list walks. walk-at-root c.args.self.now (c.in_ok-names.ensures.agrees told) (chars c.args.path.now) (entries_left list)
    (says-none _ _ (chars c.args.path.now) (rw c.deref.ensures.value at c.in_default.ensures.cases) c.in_ok-names.ensures.names) walks)
    c.walk_root.ensures.ok

pub returns-in_default-clause-refused : goal.returns-in_default-clause-refused
returns-in_default-clause-refused g c = λ told. memory-refused c.args.self.now (walk_storage (chars c.args.path.now)) c.walk_root.result refl c.walk_root.ensures.err

pub returns-clause-ok : goal.returns-clause-ok
returns-clause-ok g c = λ told. ok-then _ _ c.walk_below.result
    (λ list walks. walk-storage-answered c.args.self.now (c.in_ok-names.ensures.agrees told) (chars c.args.path.now) _ _ c.in_ok-names.ensures.names c.in_ok-names.ensures.number (entries_left list) _ _
    (map-split _ _ _ _ (rw c.deref.ensures.value at c.in-Some.ensures.cases.0)) walks)
    c.walk_below.ensures.ok

pub returns-clause-refused : goal.returns-clause-refused
returns-clause-refused g c = λ told. memory-refused c.args.self.now (walk_storage (chars c.args.path.now)) c.walk_below.result refl c.walk_below.ensures.err

pub returns-in_err-names-clause-kinds : goal.returns-in_err-names-clause-kinds
returns-in_err-names-clause-kinds g c =
    let p = err_from_is_err_and c.from_residual.result c.from_residual.ensures.1 in
    rw (p.1, p.2) (finding_asks c.args.self.now (chars c.args.path.now) c.in_err-names.field-0.0 c.in_err-names.ensures.refused)

pub returns-in_default-clause-kinds : goal.returns-in_default-clause-kinds
returns-in_default-clause-kinds g c = memory_asks c.walk_root.result c.walk_root.ensures.err

pub returns-clause-kinds : goal.returns-clause-kinds
returns-clause-kinds g c = memory_asks c.walk_below.result c.walk_below.ensures.err
