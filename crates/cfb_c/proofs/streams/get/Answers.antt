use Rattle.std.proofs.Common.{ℕ, List, chars, refl, subst}
use Rattle.std.proofs.lemmas.Result.{err_from_is_err_and}
use Rattle.cfb_whole_streams.specs.Content.{IsNotRead}
use Rattle.cfb_c.proofs.streams.get.Goals as goal

pub returns-in_err-bytes : goal.returns-in_err-bytes
returns-in_err-bytes c =
    let p = err_from_is_err_and c.from_residual-in_err-bytes.result c.from_residual-in_err-bytes.ensures.1 in
    rw (c.in-File.is, p.1, p.2, ← c.file.view_is) (record {
      made = λ _. (
        subst (λ (path : List ℕ). IsNotRead c.file.inside.inner (chars path) c.read_stream.new.file c.in_err-bytes.field-0.0) c.in_ok-text.ensures.0
            (c.in_err-bytes.ensures.refused refl),
        c.in_err-bytes.ensures.kept refl,
      );
      wrong = λ not. absurd (not c.in_ok-text.ensures.1);
    })
