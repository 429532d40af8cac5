use Rattle.std.proofs.Common.{chars, inr, subst, List, ℕ}
use Rattle.std.specs.Prelude.{◌||◌}
use Rattle.std.proofs.lemmas.Result.{err_from_is_err_and}
use Rattle.cfb_commands.specs.Commands.{refusal_of_result}
use Rattle.cfb_whole_streams.specs.Content.{IsPut}
use Rattle.cfb_whole_streams.proofs.WholePuts.{not_put}
use Rattle.cfb_whole_streams.proofs.copying.copy_stream.Goals as goal

pub returns-in_err-write_stream-clause-refused : goal.returns-in_err-write_stream-clause-refused
returns-in_err-write_stream-clause-refused g c =
    let p = err_from_is_err_and c.from_residual-in_err-write_stream.result c.from_residual-in_err-write_stream.ensures.1 in
    let old = c.args.to.now in
    let new = c.write_stream.new.file in
    let at = chars c.args.to_path.now in
    rw (p.1, p.2) (λ from_told to_told. inr (not_put (λ f. g.G.ReadMedium.read_faults f || g.G.Medium.write_faults f) c.args.from.now (chars c.args.from_path.now)
    old new at c.in_ok-bytes.bytes.items c.write_stream.result c.in_err-write_stream.field-0.0 c.in_err-write_stream.was (c.in_ok-bytes.ensures.reads from_told)
    (subst (λ (bytes : List ℕ). IsPut (λ f. g.G.ReadMedium.read_faults f || g.G.Medium.write_faults f) old at bytes (refusal_of_result c.write_stream.result) new)
    c.deref.ensures.value (c.write_stream.ensures.put to_told))))
