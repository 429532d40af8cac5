use Rattle.std.proofs.lemmas.Grind.{common_steps}
use Rattle.std.proofs.Common.{◌≡◌, ◌≤◌, ◌∙◌, ℕ, true, false, ap, arith, subst, sym, rules}
use Rattle.std.proofs.lemmas.Result.{err_from_is_err_and}
use Rattle.cfb_format.specs.Refused.{CountsError}
use Rattle.cfb_stream_window.proofs.Breaks.{never_full}
use Rattle.cfb_stream_window.specs.Touched.{faults_of}
use Rattle.cfb_stream_window.specs.Answers.{IsReady}
use Rattle.cfb_stream_window.specs.Contents.{Stored, TakesLen}
use Rattle.cfb_stream_window.proofs.Writing.{cut_inside, cut_to, resized_to, resized_lost}
use Rattle.cfb_stream_window.proofs.window.Window.resize.Goals as goal

pub returns-clause-ok : goal.returns-clause-ok
returns-clause-ok g c = λ (h : IsReady g.C.ReadContents c.args.content.now c.args.id c.args.self.now) (sound : (g.C.ReadContents.stored c.args.content.now c.args.id).sound ≡ true)
    (fits : c.args.len ≤ (g.C.ReadContents.stored c.args.content.now c.args.id).limit).
    let s = g.C.ReadContents.stored c.args.content.now c.args.id in
    let takes : TakesLen s c.args.len = record { unfailed = h.agrees.unfailed; sound = sound; fits = fits } in
    let e = c.in_default.ensures in
    let same = e.ok h.told takes in
    let cut = cut_to s c.args.self.now c.args.len h.agrees sound fits _ c.cut.new.self same c.cut.ensures.kept c.cut.ensures.past c.cut.ensures.calm in
    let r : IsReady g.C.ReadContents c.resize.new.self c.args.id c.cut.new.self = record { told = e.told h.told; agrees = cut.agrees } in
    let q = c.in_ok-settle.ensures in
    resized_to c.args.len s _ _ c.args.self.now c.cut.new.self _ cut same (q.ok r) q.window

pub returns-in_err-settle-clause-refused : goal.returns-in_err-settle-clause-refused
returns-in_err-settle-clause-refused g c = λ (h : IsReady g.C.ReadContents c.args.content.now c.args.id c.args.self.now) (sound : (g.C.ReadContents.stored c.args.content.now c.args.id).sound ≡ true)
    (fits : c.args.len ≤ (g.C.ReadContents.stored c.args.content.now c.args.id).limit).
    let s = g.C.ReadContents.stored c.args.content.now c.args.id in
    let takes : TakesLen s c.args.len = record { unfailed = h.agrees.unfailed; sound = sound; fits = fits } in
    let e = c.in_default.ensures in
    let same = e.ok h.told takes in
    let cut = cut_to s c.args.self.now c.args.len h.agrees sound fits _ c.cut.new.self same c.cut.ensures.kept c.cut.ensures.past c.cut.ensures.calm in
    let r : IsReady g.C.ReadContents c.resize.new.self c.args.id c.cut.new.self = record { told = e.told h.told; agrees = cut.agrees } in
    let q = c.in_err-settle.ensures in
    let inside = ap (λ (z : Stored). z.size) same in
    let p = err_from_is_err_and c.from_residual.result c.from_residual.ensures.1 in
    rw (p.1, p.2) (resized_lost (g.C.Contents.is_full c.settle.new.content) (g.C.Contents.is_too_long c.settle.new.content c.args.id c.args.len) c.args.len s _ _ c.args.self.now c.cut.new.self _ c.in_err-settle.field-0.0 same
    (q.inside r (omega (arith, inside, cut.agrees.total, cut.new_size))) (q.refused r))

pub returns-in_err-settle-clause-foreseen : goal.returns-in_err-settle-clause-foreseen
returns-in_err-settle-clause-foreseen g c = λ (h : IsReady g.C.ReadContents c.args.content.now c.args.id c.args.self.now) (sound : (g.C.ReadContents.stored c.args.content.now c.args.id).sound ≡ true)
    (fits : c.args.len ≤ (g.C.ReadContents.stored c.args.content.now c.args.id).limit).
    let s = g.C.ReadContents.stored c.args.content.now c.args.id in
    let takes : TakesLen s c.args.len = record { unfailed = h.agrees.unfailed; sound = sound; fits = fits } in
    let e = c.in_default.ensures in
    let cut = cut_to s c.args.self.now c.args.len h.agrees sound fits _ c.cut.new.self (e.ok h.told takes) c.cut.ensures.kept c.cut.ensures.past c.cut.ensures.calm in
    let inside = cut_inside c.args.self.now c.cut.new.self c.args.len c.cut.ensures.kept c.cut.ensures.past c.cut.ensures.calm in
    let p = err_from_is_err_and c.from_residual.result c.from_residual.ensures.1 in
    rw (p.1, p.2) (never_full _ _ (c.in_err-settle.ensures.inside (record { told = e.told h.told; agrees = cut.agrees }) (omega (arith, inside, e.len))))

pub returns-in_err-settle-clause-writes : goal.returns-in_err-settle-clause-writes
returns-in_err-settle-clause-writes g c = record {
  there = first_of (search rules, grind (arith, common_steps));
  flags = first_of (search rules, grind (arith, common_steps));
  around = (
      λ told.
      let e = c.in_default.ensures in
      let q = c.in_err-settle.ensures in
      let out = q.writes.around (e.told told) in
      let inside = cut_inside c.args.self.now c.cut.new.self c.args.len c.cut.ensures.kept c.cut.ensures.past c.cut.ensures.calm in
      let p = err_from_is_err_and c.from_residual.result c.from_residual.ensures.1 in
      rw (p.1, p.2) (record {
        told = out.told;
        others = λ first k. out.others first (e.others told first k);
        tight = q.within (e.told told) (omega (arith, inside, e.len)) _ (e.tight told);
        counts = subst (λ (m : ℕ). CountsError (faults_of g.C.ReadContents g.C.Contents) m (g.C.ReadContents.failures c.settle.new.content) c.in_err-settle.field-0.0) (e.counts told) out.counts;
        stays = λ calm. absurd (let w : true ≡ false = sym q.lost ∙ calm in cc);
      })
      );
}

pub returns-clause-leaves_room : goal.returns-clause-leaves_room
returns-clause-leaves_room g c = λ told takes longer more within long.
    let e = c.in_default.ensures in
    let inside = cut_inside c.args.self.now c.cut.new.self c.args.len c.cut.ensures.kept c.cut.ensures.past c.cut.ensures.calm in
    e.leaves_room told takes longer more within (c.in_ok-settle.ensures.takes_none (e.told told) (omega (arith, inside, e.len)) more long)
