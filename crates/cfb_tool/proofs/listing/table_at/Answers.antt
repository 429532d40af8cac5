use Rattle.std.proofs.Common.{arith, chars, refl}
use Rattle.std.proofs.lemmas.Result.{err_from_is_err_and}
use Rattle.cfb_rules.specs.Calls.{walk_storage}
use Rattle.cfb_compound_file.proofs.Numbers.{object-in-list}
use Rattle.cfb_tool.proofs.cfb_path_changes.Numbers.{object-within}
use Rattle.cfb_tool.proofs.Listed.{not-listed, path-refused}
use Rattle.cfb_tool.proofs.listing.table_at.Goals as goal

pub bounds-entries-number : goal.bounds-entries-number
bounds-entries-number g c =
    object-within c.args.file.now c.entries-entries.result.now c.in_ok-number.number c.entries-entries.ensures.entries c.entries-entries.ensures.in_order c.in_ok-number.ensures.found.object

pub offset_bounds-entries-number : goal.offset_bounds-entries-number
offset_bounds-entries-number g c = omega (
  arith,
  object-within c.args.file.now c.entries-entries.result.now c.in_ok-number.number c.entries-entries.ensures.entries c.entries-entries.ensures.in_order c.in_ok-number.ensures.found.object,
)

pub write_table-requires : goal.write_table-requires
write_table-requires g c =
    object-in-list c.args.file.now c.entries-entries.result.now c.in_ok-number.number c.entries-entries.ensures.entries c.entries-entries.ensures.in_order c.in_ok-number.ensures.found.object

pub returns-in_err-number : goal.returns-in_err-number
returns-in_err-number g c =
    let p = err_from_is_err_and c.from_residual.result c.from_residual.ensures.1 in
    rw (p.1, p.2) (record { refused = λ told. (c.in_err-number.ensures.refused told, refl) })

pub returns-in_err-own : goal.returns-in_err-own
returns-in_err-own g c =
    let p = err_from_is_err_and c.from_residual-in_err-own.result c.from_residual-in_err-own.ensures.1 in
    let found = c.in_ok-number.ensures.found in
    rw (p.1, p.2) (record {
      refused = λ told. (
        path-refused c.args.file.now (walk_storage (chars c.args.path.now)) (chars c.args.path.now) found.names _ refl found.named c.in_err-own.ensures.refused,
        refl,
      );
    })

pub returns : goal.returns
returns g c = record { refused = λ told. not-listed c.write_table.result c.args.file.now (walk_storage (chars c.args.path.now)) _ _ refl c.write_table.ensures.refused }
