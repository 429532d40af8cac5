use Rattle.std.proofs.lemmas.Grind.{common_steps}
use Rattle.std.proofs.Common.{List, sym, ◌∙◌, subst, rules, arith}
use Rattle.std.proofs.lemmas.Result.{err_from_is_err_and}
use Rattle.cfb_places.specs.declared.walk.Place.{Place}
use Rattle.cfb_copies.specs.Copies.{AreCopyable, AreReadable, ListsObjects}
use Rattle.cfb_copies.proofs.Faults.{break_refused, no_fault_counts, unprepared_refused}
use Rattle.cfb_copies.proofs.Filled.{fits_cut, means_same}
use Rattle.cfb_copies.proofs.Headers.{header_as_created}
use Rattle.cfb_copies.proofs.Prepared.{refused_early}
use Rattle.cfb_copies.proofs.copying.copy_volume.Goals as goal

pub returns-in_err-list-clause-unless : goal.returns-in_err-list-clause-unless
returns-in_err-list-clause-unless g c told agrees calm =
    let p = err_from_is_err_and c.from_residual.result c.from_residual.ensures.1 in
    rw (p.1, p.2) (refused_early c.args.source.now c.in_err-list.field-0.0 (c.in_err-list.ensures.err told (agrees calm)))

pub returns-in_err-list-clause-reads : goal.returns-in_err-list-clause-reads
returns-in_err-list-clause-reads g c = record {
  reads = first_of (search rules, grind (arith, common_steps));
  counts = λ told. (
      let p = err_from_is_err_and c.from_residual.result c.from_residual.ensures.1 in
      rw (p.1, p.2) (no_fault_counts _ _ _ _ c.in_err-list.field-0.0 c.in_err-list.ensures.calm)
      );
}

pub returns-in_err-list-clause-err : goal.returns-in_err-list-clause-err
returns-in_err-list-clause-err g c told tells agrees =
    let p = err_from_is_err_and c.from_residual.result c.from_residual.ensures.1 in
    let calm = sym c.is_failed.ensures ∙ c.if-is_failed.false in
    rw (p.1, p.2) (unprepared_refused c.args.source.now c.in_err-list.field-0.0 calm (c.in_err-list.ensures.err told (agrees calm)))

pub returns-in_err-target-clause-unless : goal.returns-in_err-target-clause-unless
returns-in_err-target-clause-unless g c told agrees calm tree means =
    let can = c.in_ok-list.ensures.allowed told (agrees calm) tree means in (λ broken. absurd (broken can.0), λ whole large. absurd (can.1 large))

pub fill-requires-clause-can_copy : goal.fill-requires-clause-can_copy
fill-requires-clause-can_copy g c = record {
  listed = subst (λ (l : List Place). ListsObjects c.args.source.now l) (sym c.as_slice-listed.ensures.value) c.in_ok-list.ensures.listed;
  copyable = subst (λ (l : List Place). AreCopyable c.args.source.now l) (sym c.as_slice-listed.ensures.value) c.in_ok-list.ensures.copyable;
  in_version = first_of (search rules, grind (arith, common_steps));
  letters = first_of (search rules, grind (arith, common_steps));
}

pub returns-in_err-fill-clause-unless : goal.returns-in_err-fill-clause-unless
returns-in_err-fill-clause-unless g c told agrees calm tree means =
    let can = c.in_ok-list.ensures.allowed told (agrees calm) tree means in (λ broken. absurd (broken can.0), λ whole large. absurd (can.1 large))

pub returns-in_err-fill-clause-err : goal.returns-in_err-fill-clause-err
returns-in_err-fill-clause-err g c told tells agrees =
    let p = err_from_is_err_and c.from_residual-in_err-fill.result c.from_residual-in_err-fill.ensures.1 in
    let calm = sym c.is_failed.ensures ∙ c.if-is_failed.false in
    let m = c.in_ok-target.ensures in
    let readable = subst (λ (l : List Place). AreReadable c.args.source.now l) (sym c.as_slice-listed.ensures.value) (c.in_ok-list.ensures.readable told (agrees calm)) in
    rw (p.1, p.2) (break_refused c.args.source.now c.in_err-fill.field-0.0 calm (c.in_err-fill.ensures.err told tells (agrees calm) (m.copy.made tells).holds readable (m.empty tells))
    (c.in_err-fill.ensures.enough told tells (agrees calm) (m.copy.made tells).holds readable (m.empty tells) (m.fresh tells)
    (fits_cut c.args.source.now (c.in_ok-list.ensures.allowed told (agrees calm)))))

pub returns-in_err-fill-clause-reads : goal.returns-in_err-fill-clause-reads
returns-in_err-fill-clause-reads g c = record {
  reads = first_of (search rules, grind (arith, common_steps));
  counts = λ told. (
      let p = err_from_is_err_and c.from_residual-in_err-fill.result c.from_residual-in_err-fill.ensures.1 in
      rw (p.1, p.2) (c.in_err-fill.ensures.reads.counts told)
      );
}

pub returns-clause-copy : goal.returns-clause-copy
returns-clause-copy g c = record {
  after = first_of (search rules, grind (arith, common_steps));
  made = λ tells. (
      let m = c.in_ok-target.ensures.copy.made tells in
      let w = c.in_ok-fill.ensures.grows in
      record {
        holds = w.holds tells m.holds;
        made = w.made tells m.holds m.made;
        none_free = w.none_free tells m.holds m.none_free;
        tight = w.tight tells m.holds m.tight;
        header = header_as_created c.in_ok-target.target c.fill.new.target m.holds w.setting.limits.version (w.header tells m.holds) m.header;
        calm = w.calm tells ∙ m.calm;
      }
      );
}

pub returns-clause-tree : goal.returns-clause-tree
returns-clause-tree g c told tells agrees =
    let calm = sym c.is_failed.ensures ∙ c.if-is_failed.false in
    let m = c.in_ok-target.ensures in
    let readable = subst (λ (l : List Place). AreReadable c.args.source.now l) (sym c.as_slice-listed.ensures.value) (c.in_ok-list.ensures.readable told (agrees calm)) in
    means_same c.args.source.now c.fill.new.target (c.in_ok-fill.ensures.tree told tells (agrees calm) (m.copy.made tells).holds readable (m.empty tells)) (c.in_ok-list.ensures.allowed told (agrees calm))

pub returns-clause-allowed : goal.returns-clause-allowed
returns-clause-allowed g c told agrees =
    let calm = sym c.is_failed.ensures ∙ c.if-is_failed.false in c.in_ok-list.ensures.allowed told (agrees calm)

pub returns-clause-unless : goal.returns-clause-unless
returns-clause-unless g c told agrees calm tree means =
    let can = c.in_ok-list.ensures.allowed told (agrees calm) tree means in (λ broken. absurd (broken can.0), λ whole large. absurd (can.1 large))

pub fill-requires-clause-can_change : goal.fill-requires-clause-can_change
fill-requires-clause-can_change g c = record {
  sound = first_of (search rules, grind (arith, common_steps));
  unfailed = first_of (search rules, grind (arith, common_steps));
}
