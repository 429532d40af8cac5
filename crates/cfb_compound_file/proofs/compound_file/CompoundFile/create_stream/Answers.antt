use Rattle.std.proofs.Common.{refl}
use Rattle.std.proofs.lemmas.Result.{err_from_is_err_and}
use Rattle.cfb_compound_file.proofs.compound_file.CompoundFile.create_stream.Goals as goal

pub returns-in_err-entry : goal.returns-in_err-entry
returns-in_err-entry g c = let p = err_from_is_err_and c.from_residual.result c.from_residual.ensures.1 in rw (p.1, p.2) (
  (
    refl,
    (λ w. tt),
    (
      (let k = c.in_err-entry.ensures.any in record { setting = k.setting; failed = k.failed; unsound = k.unsound; unfailed = tt; stays = k.stays }),
      λ told. c.in_err-entry.ensures.refused told,
    ),
  ),
  (tt, tt),
)
