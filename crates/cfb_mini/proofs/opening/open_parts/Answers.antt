use Rattle.std.proofs.Common.{◌≡◌, ◌++◌, ℕ, List, [], length, sym, arith}
use Rattle.std.specs.Prelude.{option_map, unwrap_or}
use Rattle.std.proofs.lemmas.Result.{err_from_is_err_and}
use Rattle.cfb_codecs.proofs.Refusals.{refusal_follows}
use Rattle.cfb_mini.proofs.cfb_directory.DirectoryRefusals.{walk_invalid}
use Rattle.cfb_mini.proofs.cfb_directory.LeastAbove.{least-kept}
use Rattle.cfb_mini.proofs.opening.open_parts.Goals as goal

pub returns-in_err-minifat_sectors-clause-refused : goal.returns-in_err-minifat_sectors-clause-refused
returns-in_err-minifat_sectors-clause-refused g c =
    let p = err_from_is_err_and c.from_residual.result c.from_residual.ensures.1 in
    let long : length c.args.words.items ≡ c.len.result = omega (arith, c.len.ensures, c.args.words.ok.0) in
    rw (p.1, p.2) (refusal_follows c.in_err-minifat_sectors.field-0.0 _ _ (λ none list are accepts strict. none c.args.words.items list long are strict)
    c.in_err-minifat_sectors.ensures.refused)

pub returns-in_err-mini_stream-clause-refused : goal.returns-in_err-mini_stream-clause-refused
returns-in_err-mini_stream-clause-refused g c =
    let p = err_from_is_err_and c.from_residual-in_err-mini_stream.result c.from_residual-in_err-mini_stream.ensures.1 in
    rw (p.1, p.2) (walk_invalid ⊥ _ (λ no. absurd no) c.in_err-mini_stream.field-0.0 c.in_err-mini_stream.ensures.err)

pub returns-in_err-table-clause-refused : goal.returns-in_err-table-clause-refused
returns-in_err-table-clause-refused g c =
    let p = err_from_is_err_and c.from_residual-in_err-table.result c.from_residual-in_err-table.ensures.1 in
    rw (p.1, p.2) (walk_invalid _ _ (λ none list are accepts strict. none accepts) c.in_err-table.field-0.0 c.in_err-table.ensures.err)

pub returns-clause-above : goal.returns-clause-above
returns-clause-above g c =
    let stream : List ℕ = unwrap_or (option_map (λ v. v.items) c.in_ok-mini_stream.mini_stream) [] in
    least-kept (c.deref.result.now ++ stream) (c.in_ok-minifat_sectors.minifat_sectors.items ++ stream) c.above_all-above.result (λ j. sym c.deref.ensures.value j ++ stream)
    c.above_all-above.ensures
