use Rattle.std.proofs.lemmas.Result.{err_from_is_err_and}
use Rattle.cfb_format.specs.declared.error.Error.TheVariants.{InvalidInput}
use Rattle.std.proofs.Common.{refl}
use Rattle.std.specs.Prelude.{chars}
use Rattle.cfb_compound_file.specs.cfb_rules.Calls.{read_storage}
use Rattle.cfb_listing.specs.Left.{entries_left}
use Rattle.cfb_compound_file.proofs.Asked.{read-looks, refused-at-path}
use Rattle.cfb_path_changes.proofs.Numbers.{object-within}
use Rattle.cfb_compound_file.proofs.RefusedKinds.{finding_asks, memory_asks}
use Rattle.cfb_compound_file.proofs.Numbers.{memory-refused, no-stream-by-test, ok-then, stream-by-test}
use Rattle.cfb_compound_file.proofs.Told.{read-answered, read-refused}
use Rattle.cfb_compound_file.proofs.compound_file.CompoundFile.read_storage.Goals as goal

pub returns-in_err-names-clause-refused : goal.returns-in_err-names-clause-refused
returns-in_err-names-clause-refused g c = λ told.
    let p = err_from_is_err_and c.from_residual.result c.from_residual.ensures.1 in
    rw (p.1, p.2) (refused-at-path c.args.self.now (read_storage (chars c.args.path.now)) (chars c.args.path.now) _ (read-looks (chars c.args.path.now)) (c.in_err-names.ensures.agrees told) c.in_err-names.ensures.refused)

pub is_stream_entry-requires : goal.is_stream_entry-requires
is_stream_entry-requires g c =
    object-within c.args.self.now c.entries.result.now _ (rw c.self.view_is at c.entries.ensures.entries) (rw c.self.view_is at c.entries.ensures.in_order) c.in_ok-names.ensures.reached

pub returns-then-is_stream_entry-clause-refused : goal.returns-then-is_stream_entry-clause-refused
returns-then-is_stream_entry-clause-refused g c = λ told. read-refused c.args.self.now (c.in_ok-names.ensures.agrees told) (chars c.args.path.now) _ _ c.in_ok-names.ensures.names c.in_ok-names.ensures.number (InvalidInput c.text.result)
    (stream-by-test c.entries.result.now _ _ _ (rw c.self.view_is at c.entries.ensures.entries) c.is_stream_entry.ensures c.if-is_stream_entry.true) refl

pub children_at-requires : goal.children_at-requires
children_at-requires g c = λ o is. (
  c.in_ok-names.ensures.reached o is,
  no-stream-by-test c.entries.result.now _ _ _ (rw c.self.view_is at c.entries.ensures.entries) c.is_stream_entry.ensures c.if-is_stream_entry.false,
)

pub returns-clause-ok : goal.returns-clause-ok
returns-clause-ok g c = λ told. ok-then _ _ c.children_at.result
    (λ list lists. read-answered c.args.self.now (c.in_ok-names.ensures.agrees told) (chars c.args.path.now) _ _ c.in_ok-names.ensures.names c.in_ok-names.ensures.number (entries_left list)
    (no-stream-by-test c.entries.result.now _ _ _ (rw c.self.view_is at c.entries.ensures.entries) c.is_stream_entry.ensures c.if-is_stream_entry.false) lists)
    (rw c.deref.ensures.value at c.children_at.ensures.ok)

pub returns-clause-refused : goal.returns-clause-refused
returns-clause-refused g c = λ told. memory-refused c.args.self.now (read_storage (chars c.args.path.now)) c.children_at.result refl c.children_at.ensures.err

pub returns-in_err-names-clause-kinds : goal.returns-in_err-names-clause-kinds
returns-in_err-names-clause-kinds g c =
    let p = err_from_is_err_and c.from_residual.result c.from_residual.ensures.1 in
    rw (p.1, p.2) (finding_asks c.args.self.now (chars c.args.path.now) c.in_err-names.field-0.0 c.in_err-names.ensures.refused)

pub returns-clause-kinds : goal.returns-clause-kinds
returns-clause-kinds g c = memory_asks c.children_at.result c.children_at.ensures.err
