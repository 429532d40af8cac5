use Rattle.std.proofs.Common.{List, subst, sym}
use Rattle.cfb_flaws.specs.declared.flaw.Flaw.{Flaw}
use Rattle.cfb_tool.specs.cfb_compound_file.Flaws.{AreFlawsOf}
use Rattle.cfb_tool.proofs.FoundCuts.{told_cut}
use Rattle.cfb_tool.proofs.cuts.cut_of.Goals as goal

pub returns-clause-ok : goal.returns-clause-ok
returns-clause-ok g c = λ told. told_cut c.args.file.now c.deref.result.now
    (subst (λ (flaws : List Flaw). AreFlawsOf c.args.file.now flaws) (sym c.deref.ensures.value) (c.in_ok-flaws.ensures.told told))
    c.first_cut.result c.first_cut.ensures
