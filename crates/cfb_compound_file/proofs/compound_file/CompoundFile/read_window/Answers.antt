use Rattle.std.proofs.Common.{subst}
use Rattle.cfb_agreement.specs.Files.{Agrees, FileState}
use Rattle.cfb_compound_file.proofs.Fitting.{fitting}
use Rattle.cfb_compound_file.proofs.Numbers.{ok-then}
use Rattle.cfb_compound_file.proofs.compound_file.CompoundFile.read_window.Goals as goal

pub returns-clause-suits : goal.returns-clause-suits
returns-clause-suits g c = λ told.
    let held = subst (λ (z : FileState). Agrees z) c.self.view_is (c.self.invariant told) c.requires.unfailed in
    ok-then _ _ c.open.result (λ w open_window. open_window.suits) (c.open.ensures.is_open told (fitting c.args.self.now c.args.entry c.requires.unfailed held c.requires.there))
