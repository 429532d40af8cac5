use Rattle.std.proofs.lemmas.Grind.{common_steps}
use Rattle.std.proofs.Common.{sym, ◌∙◌, rules, arith}
use Rattle.std.proofs.lemmas.Result.{err_from_is_err_and}
use Rattle.cfb_copies.proofs.Reading.{read_holds}
use Rattle.cfb_compound_file.proofs.compound_file.CompoundFile.copy_to.Goals as goal

pub invariant_of-self : goal.invariant_of-self
invariant_of-self g c = λ told unfailed. read_holds g.F.ReadMedium.tells c.self.inside.volume c.copy_volume.new.source c.copy_volume.ensures.reads.reads told
    (c.self.invariant told (sym c.copy_volume.ensures.reads.reads.flag ∙ unfailed))

pub invariant_of-result : goal.invariant_of-result
invariant_of-result g c = λ tells unfailed. (c.in_ok-volume.ensures.copy.made tells).holds

pub returns-in_err-volume-clause-unless : goal.returns-in_err-volume-clause-unless
returns-in_err-volume-clause-unless g c =
    let p = err_from_is_err_and c.from_residual.result c.from_residual.ensures.1 in
    rw (← c.self.view_is) (λ told unfailed. rw (p.1, p.2) (c.in_err-volume.ensures.unless told (c.self.invariant told) unfailed))

pub returns-in_err-volume-clause-err : goal.returns-in_err-volume-clause-err
returns-in_err-volume-clause-err g c =
    let p = err_from_is_err_and c.from_residual.result c.from_residual.ensures.1 in
    rw (← c.self.view_is) (λ told tells. rw (p.1, p.2) (c.in_err-volume.ensures.err told tells (c.self.invariant told)))

pub returns-clause-tree : goal.returns-clause-tree
returns-clause-tree g c = rw (← c.self.view_is) (λ told tells. c.in_ok-volume.ensures.tree told tells (c.self.invariant told))

pub returns-clause-allowed : goal.returns-clause-allowed
returns-clause-allowed g c = rw (← c.self.view_is) (λ told. c.in_ok-volume.ensures.allowed told (c.self.invariant told))

pub returns-clause-unless : goal.returns-clause-unless
returns-clause-unless g c = rw (← c.self.view_is) (λ told unfailed. c.in_ok-volume.ensures.unless told (c.self.invariant told) unfailed)

pub invariant_of-self-2 : goal.invariant_of-self-2
invariant_of-self-2 g c = λ told unfailed. read_holds g.F.ReadMedium.tells c.self.inside.volume c.copy_volume.new.source c.copy_volume.ensures.reads.reads told
    (c.self.invariant told (sym c.copy_volume.ensures.reads.reads.flag ∙ unfailed))

pub returns-clause-copy : goal.returns-clause-copy
returns-clause-copy g c = record {
  after = first_of (search rules, grind (arith, common_steps));
  made = (λ tells. c.in_ok-volume.ensures.copy.made tells);
}

pub returns-clause-reads : goal.returns-clause-reads
returns-clause-reads g c = rw (← c.self.view_is) (record {
  reads = c.copy_volume.ensures.reads.reads;
  counts = λ told. c.in_ok-volume.ensures.reads.counts told;
})
