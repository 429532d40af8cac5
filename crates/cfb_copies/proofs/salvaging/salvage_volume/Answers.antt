use Rattle.std.proofs.lemmas.Grind.{common_steps}
use Rattle.std.proofs.Common.{List, sym, ◌∙◌, subst, rules, arith}
use Rattle.std.proofs.lemmas.Result.{err_from_is_err_and}
use Rattle.cfb_places.specs.declared.walk.Place.{Place}
use Rattle.cfb_copies.specs.Copies.{AreCopyable, ListsObjects}
use Rattle.cfb_copies.proofs.Faults.{break_cut, no_fault_counts, refused_cut, unprepared_cut}
use Rattle.cfb_copies.proofs.Headers.{header_as_created}
use Rattle.cfb_copies.proofs.salvaging.salvage_volume.Goals as goal

pub returns-in_err-prepared-clause-full : goal.returns-in_err-prepared-clause-full
returns-in_err-prepared-clause-full g c told agrees calm tree means large =
    let p = err_from_is_err_and c.from_residual.result c.from_residual.ensures.1 in
    rw (p.1, p.2) (refused_cut c.args.source.now c.in_err-prepared.field-0.0 (c.in_err-prepared.ensures.err told (agrees calm)))

pub returns-in_err-prepared-clause-reads : goal.returns-in_err-prepared-clause-reads
returns-in_err-prepared-clause-reads g c = record {
  reads = first_of (search rules, grind (arith, common_steps));
  counts = λ told. (
      let p = err_from_is_err_and c.from_residual.result c.from_residual.ensures.1 in
      rw (p.1, p.2) (no_fault_counts _ _ _ _ c.in_err-prepared.field-0.0 c.in_err-prepared.ensures.calm)
      );
}

pub returns-in_err-prepared-clause-err : goal.returns-in_err-prepared-clause-err
returns-in_err-prepared-clause-err g c told tells agrees =
    let p = err_from_is_err_and c.from_residual.result c.from_residual.ensures.1 in
    let calm = sym c.is_failed.ensures ∙ c.if-is_failed.false in
    rw (p.1, p.2) (unprepared_cut c.args.source.now c.in_err-prepared.field-0.0 calm (c.in_err-prepared.ensures.err told (agrees calm)))

pub returns-in_err-volume-clause-full : goal.returns-in_err-volume-clause-full
returns-in_err-volume-clause-full g c told agrees calm tree means large = absurd (c.in_ok-prepared.ensures.fits told (agrees calm) tree means large)

pub fill-requires-clause-can_copy : goal.fill-requires-clause-can_copy
fill-requires-clause-can_copy g c = record {
  listed = subst (λ (l : List Place). ListsObjects c.args.source.now l) (sym c.as_slice-listed.ensures.value) c.in_ok-prepared.ensures.listed;
  copyable = subst (λ (l : List Place). AreCopyable c.args.source.now l) (sym c.as_slice-listed.ensures.value) c.in_ok-prepared.ensures.copyable;
  in_version = first_of (search rules, grind (arith, common_steps));
  letters = first_of (search rules, grind (arith, common_steps));
}

pub returns-in_err-fill-clause-full : goal.returns-in_err-fill-clause-full
returns-in_err-fill-clause-full g c told agrees calm tree means large = absurd (c.in_ok-prepared.ensures.fits told (agrees calm) tree means large)

pub returns-in_err-fill-clause-err : goal.returns-in_err-fill-clause-err
returns-in_err-fill-clause-err g c told tells agrees =
    let p = err_from_is_err_and c.from_residual-in_err-fill.result c.from_residual-in_err-fill.ensures.1 in
    let calm = sym c.is_failed.ensures ∙ c.if-is_failed.false in
    let m = c.in_ok-volume.ensures in
    rw (p.1, p.2) (break_cut c.args.source.now c.in_err-fill.field-0.0 calm (c.in_err-fill.ensures.err told tells (agrees calm) (m.copy.made tells).holds (λ j d below. tt) (m.empty tells))
    (c.in_err-fill.ensures.enough told tells (agrees calm) (m.copy.made tells).holds (λ j d below. tt) (m.empty tells) (m.fresh tells) (c.in_ok-prepared.ensures.fits told (agrees calm))))

pub returns-in_err-fill-clause-reads : goal.returns-in_err-fill-clause-reads
returns-in_err-fill-clause-reads g c = record {
  reads = first_of (search rules, grind (arith, common_steps));
  counts = λ told. (
      let p = err_from_is_err_and c.from_residual-in_err-fill.result c.from_residual-in_err-fill.ensures.1 in
      rw (p.1, p.2) (c.in_err-fill.ensures.reads.counts told)
      );
}

pub returns-clause-made : goal.returns-clause-made
returns-clause-made g c tells =
    let m = c.in_ok-volume.ensures.copy.made tells in
    let w = c.in_ok-fill.ensures.grows in
    record {
      holds = w.holds tells m.holds;
      made = w.made tells m.holds m.made;
      none_free = w.none_free tells m.holds m.none_free;
      tight = w.tight tells m.holds m.tight;
      header = header_as_created c.in_ok-volume.volume c.fill.new.target m.holds w.setting.limits.version (w.header tells m.holds) m.header;
      calm = w.calm tells ∙ m.calm;
    }

pub returns-clause-salvaged : goal.returns-clause-salvaged
returns-clause-salvaged g c told agrees =
    let calm = sym c.is_failed.ensures ∙ c.if-is_failed.false in
    let m = c.in_ok-volume.ensures in
    record {
      tree = λ tells. c.in_ok-fill.ensures.tree told tells (agrees calm) (m.copy.made tells).holds (λ j d below. tt) (m.empty tells);
      report = c.in_ok-prepared.ensures.told told (agrees calm);
      fits = c.in_ok-prepared.ensures.fits told (agrees calm);
    }

pub returns-clause-full : goal.returns-clause-full
returns-clause-full g c told agrees calm tree means large = absurd (c.in_ok-prepared.ensures.fits told (agrees calm) tree means large)

pub fill-requires-clause-can_change : goal.fill-requires-clause-can_change
fill-requires-clause-can_change g c = record {
  sound = first_of (search rules, grind (arith, common_steps));
  unfailed = first_of (search rules, grind (arith, common_steps));
}
