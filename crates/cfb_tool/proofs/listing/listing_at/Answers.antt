use Rattle.std.proofs.Common.{◌∙◌, ap, arith, chars, get_or, refl, string_bytes, subst, sym}
use Rattle.std.proofs.lemmas.Result.{err_from_is_err_and}
use Rattle.std.proofs.lemmas.List.{get_or-map}
use Rattle.cfb_codecs.specs.EntryModel.{entries_of as entries_in, entry_of}
use Rattle.cfb_format.specs.DirectoryEntry.{Entry, unallocated_entry}
use Rattle.cfb_rules.specs.Calls.{walk_storage}
use Rattle.cfb_tool.proofs.cfb_path_changes.Numbers.{object-within}
use Rattle.cfb_compound_file.proofs.Numbers.{object-in-list}
use Rattle.cfb_tool.specs.Listing.{HasLines, IsPathInWalk}
use Rattle.cfb_tool.proofs.Listed.{at-listed, not-listed, path-refused, writes-as}
use Rattle.cfb_tool.proofs.listing.listing_at.Goals as goal

pub bounds-entries-number : goal.bounds-entries-number
bounds-entries-number g c =
    object-within c.args.file.now c.entries-entries.result.now c.in_ok-number.number c.entries-entries.ensures.entries c.entries-entries.ensures.in_order c.in_ok-number.ensures.found.object

pub offset_bounds-entries-number : goal.offset_bounds-entries-number
offset_bounds-entries-number g c = omega (
  arith,
  object-within c.args.file.now c.entries-entries.result.now c.in_ok-number.number c.entries-entries.ensures.entries c.entries-entries.ensures.in_order c.in_ok-number.ensures.found.object,
)

pub write_walk-requires : goal.write_walk-requires
write_walk-requires g c =
    object-in-list c.args.file.now c.entries-entries.result.now c.in_ok-number.number c.entries-entries.ensures.entries c.entries-entries.ensures.in_order c.in_ok-number.ensures.found.object

pub returns-in_err-number-clause-refused : goal.returns-in_err-number-clause-refused
returns-in_err-number-clause-refused g c =
    let p = err_from_is_err_and c.from_residual.result c.from_residual.ensures.1 in
    rw (p.1, p.2) (λ told. (c.in_err-number.ensures.refused told, refl))

pub returns-in_err-own-clause-refused : goal.returns-in_err-own-clause-refused
returns-in_err-own-clause-refused g c =
    let p = err_from_is_err_and c.from_residual-in_err-own.result c.from_residual-in_err-own.ensures.1 in
    let found = c.in_ok-number.ensures.found in
    rw (p.1, p.2) (λ told. (
      path-refused c.args.file.now (walk_storage (chars c.args.path.now)) (chars c.args.path.now) found.names _ refl found.named c.in_err-own.ensures.refused,
      refl,
    ))

pub returns-clause-lists : goal.returns-clause-lists
returns-clause-lists g c = λ told.
    let list = c.entries-entries.result.now in
    let k = c.in_ok-number.number in
    let one = c.index-entries-number.result in
    let inside = object-within c.args.file.now list k c.entries-entries.ensures.entries c.entries-entries.ensures.in_order c.in_ok-number.ensures.found.object in
    let same = ap (λ e. (entry_of e).name) c.index-entries-number.is ∙ sym (ap (λ (e : Entry). e.name) (get_or-map entry_of list k one unallocated_entry inside)) in
    let named = subst (λ name. IsPathInWalk (chars c.args.path.now) name (chars c.as_str.result.now)) same
    (subst (λ bs. IsPathInWalk (chars c.args.path.now) (entry_of one).name (chars bs)) (sym c.as_str.ensures.value) c.in_ok-own.ensures.ok) in
    writes-as c.write_walk.result _ (HasLines c.args.form c.args.file.now (walk_storage (chars c.args.path.now))) _ _
    (λ text has.
    at-listed c.args.form c.args.file.now (entries_in c.entries-entries.result.now) (chars c.args.path.now) _ c.in_ok-number.number text
    (c.entries-entries.ensures.agrees told) c.entries-entries.ensures.in_order c.entries-entries.ensures.entries c.in_ok-number.ensures.found
    named has)
    c.write_walk.ensures.lines

pub returns-clause-refused : goal.returns-clause-refused
returns-clause-refused g c = λ told. not-listed c.write_walk.result c.args.file.now (walk_storage (chars c.args.path.now)) _ _ refl c.write_walk.ensures.refused
