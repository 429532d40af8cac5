use Rattle.std.proofs.Common.{ℕ, List, chars, subst}
use Rattle.std.proofs.lemmas.Result.{err_from_is_err_and}
use Rattle.cfb_c.specs.Pieces.{IsNotReadFrom}
use Rattle.cfb_c.proofs.streams.read.Goals as goal

pub returns-in_err-len : goal.returns-in_err-len
returns-in_err-len c =
    let p = err_from_is_err_and c.from_residual-in_err-len.result c.from_residual-in_err-len.ensures.1 in
    rw (c.in-File.is, p.1, p.2) (record {
      made = λ _. record {
        same = c.read.ensures.same;
        piece = tt;
        refused = subst (λ (path : List ℕ). IsNotReadFrom c.in-File.file (chars path) c.args.at c.in_err-len.field-0.0) c.in_ok-text.ensures.0 c.in_err-len.ensures.refused;
      };
      wrong = λ not. absurd (not c.in_ok-text.ensures.1);
    })
