use Rattle.std.proofs.Common.{sym, ◌∙◌}
use Rattle.std.proofs.lemmas.Result.{err_from_is_err_and}
use Rattle.cfb_copies.proofs.Reading.{read_holds}
use Rattle.cfb_compound_file.proofs.compound_file.CompoundFile.salvage_to.Goals as goal

pub invariant_of-self : goal.invariant_of-self
invariant_of-self g c = λ told unfailed. read_holds g.F.ReadMedium.tells c.self.inside.volume c.salvage_volume.new.source c.salvage_volume.ensures.reads.reads told
    (c.self.invariant told (sym c.salvage_volume.ensures.reads.reads.flag ∙ unfailed))

pub returns-in_err-salvaged-clause-full : goal.returns-in_err-salvaged-clause-full
returns-in_err-salvaged-clause-full g c =
    let p = err_from_is_err_and c.from_residual.result c.from_residual.ensures.1 in
    rw (← c.self.view_is) (λ told unfailed. rw (p.1, p.2) (c.in_err-salvaged.ensures.full told (c.self.invariant told) unfailed))

pub returns-in_err-salvaged-clause-err : goal.returns-in_err-salvaged-clause-err
returns-in_err-salvaged-clause-err g c =
    let p = err_from_is_err_and c.from_residual.result c.from_residual.ensures.1 in
    rw (← c.self.view_is) (λ told tells. rw (p.1, p.2) (c.in_err-salvaged.ensures.err told tells (c.self.invariant told)))

pub invariant_of-result : goal.invariant_of-result
invariant_of-result g c = λ tells unfailed. (c.in_ok-salvaged.ensures.made tells).holds

pub returns-clause-salvaged : goal.returns-clause-salvaged
returns-clause-salvaged g c = rw (← c.self.view_is) (λ told. c.in_ok-salvaged.ensures.salvaged told (c.self.invariant told))

pub returns-clause-full : goal.returns-clause-full
returns-clause-full g c = rw (← c.self.view_is) (λ told unfailed. c.in_ok-salvaged.ensures.full told (c.self.invariant told) unfailed)

pub invariant_of-self-2 : goal.invariant_of-self-2
invariant_of-self-2 g c = λ told unfailed. read_holds g.F.ReadMedium.tells c.self.inside.volume c.salvage_volume.new.source c.salvage_volume.ensures.reads.reads told
    (c.self.invariant told (sym c.salvage_volume.ensures.reads.reads.flag ∙ unfailed))

pub returns-clause-made : goal.returns-clause-made
returns-clause-made g c = λ tells. c.in_ok-salvaged.ensures.made tells

pub returns-clause-reads : goal.returns-clause-reads
returns-clause-reads g c = rw (← c.self.view_is) (record {
  reads = c.salvage_volume.ensures.reads.reads;
  counts = λ told. c.in_ok-salvaged.ensures.reads.counts told;
})
