use Rattle.std.proofs.Common.{◌≡◌, ◌∙◌, inl, rules}
use Rattle.std.proofs.lemmas.Result.{err_from_is_err_and}
use Rattle.cfb_commands.specs.cfb_agreement.Files.{FileState}
use Rattle.cfb_commands.proofs.Openings.{at_error, same_file}
use Rattle.cfb_c.proofs.streams.read_piece.Goals as goal

pub returns-in_err-stream-clause-refused : goal.returns-in_err-stream-clause-refused
returns-in_err-stream-clause-refused g c =
    let p = err_from_is_err_and c.from_residual.result c.from_residual.ensures.1 in
    let h = at_error _ c.open_read_stream.result c.in_err-stream.field-0.0 c.in_err-stream.was c.open_read_stream.follows.holds-at-none in
    rw (p.1, p.2) (inl (h.1 c.requires.tells))

pub returns-clause-same : goal.returns-clause-same
returns-clause-same g c =
    same_file (λ (file : FileState). file ≡ c.args.file.now) _ c.close-closed.new.self.0 (search (c.in_ok-stream.ensures.lent, c.fill_from-read.ensures.same_file, rules))
    (c.close-closed.ensures.same ∙ c.fill_from-read.ensures.same ∙ c.in_ok-stream.ensures.opened.file)
