use Rattle.std.proofs.Common.{◌≡◌, false, true, subst}
use Rattle.cfb_agreement.specs.Files.{FileState, is_failed}
use Rattle.cfb_compound_file.specs.Opening.{CanBeReopened}
use Rattle.cfb_compound_file.proofs.Reopening.{can-be-reopened}
use Rattle.cfb_compound_file.proofs.compound_file.CompoundFile.into_inner.Goals as goal

pub returns-clause-reopens : goal.returns-clause-reopens
returns-clause-reopens g c told =
    subst (λ (file : FileState). is_failed file ≡ false → file.is_sound ≡ true → CanBeReopened file) c.self.view_is
    (λ calm sound. can-be-reopened c.self.inside.volume (c.self.invariant told calm) c.into_inner.ensures.short sound)
