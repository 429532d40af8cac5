use Rattle.std.proofs.Common.{◌≡◌, ◌≤◌, ◌∙◌, ℕ, true, false, arith, subst, sym, inr}
use Rattle.std.proofs.lemmas.Result.{err_from_is_err_and}
use Rattle.cfb_format.specs.Refused.{IsBreak}
use Rattle.cfb_format.specs.declared.error.Error.{Error}
use Rattle.cfb_format.specs.declared.error.Error.TheVariants.{Full}
use Rattle.cfb_stream_window.specs.Contents.{TakesLen}
use Rattle.cfb_stream_window.specs.Answers.{IsReady}
use Rattle.cfb_stream_window.specs.Windows.{LiesOver, Resized}
use Rattle.cfb_stream_window.proofs.InTurn.{once_between}
use Rattle.cfb_stream_window.proofs.Writing.{lacks_none, lost_after, resized_again, resized_settled}
use Rattle.cfb_stream_window.proofs.window.Window.write_out_and_resize.Goals as goal

pub returns-clause-ok : goal.returns-clause-ok
returns-clause-ok g c = λ (h : IsReady g.C.ReadContents c.args.content.now c.args.id c.args.self.now) (sound : (g.C.ReadContents.stored c.args.content.now c.args.id).sound ≡ true)
    (fits : c.args.len ≤ (g.C.ReadContents.stored c.args.content.now c.args.id).limit).
    let s = g.C.ReadContents.stored c.args.content.now c.args.id in
    let t = g.C.ReadContents.stored c.resize.new.content c.args.id in
    let w = c.args.self.now in
    let v = c.resize.new.self in
    let is = c.len-size.ensures.value in
    let e = c.in_ok-resize.ensures in
    let k = subst (λ (n : ℕ). Resized n s w t v) is (e.ok h sound (omega (arith, is, h.agrees.within))) in
    let r : IsReady g.C.ReadContents c.resize.new.content c.args.id v = record { told = (e.writes.around h.told).told; agrees = k.agrees } in
    resized_again c.args.len s t _ w v _ h.agrees sound (omega (arith, c.requires.longer)) c.position-at.ensures.inside k
    (c.in_ok-resize_again.ensures.ok r (k.sound ∙ sound) (omega (arith, k.limit, fits)))

pub returns-in_err-resize-clause-refused : goal.returns-in_err-resize-clause-refused
returns-in_err-resize-clause-refused g c = λ (h : IsReady g.C.ReadContents c.args.content.now c.args.id c.args.self.now) (sound : (g.C.ReadContents.stored c.args.content.now c.args.id).sound ≡ true)
    (fits : c.args.len ≤ (g.C.ReadContents.stored c.args.content.now c.args.id).limit).
    let s = g.C.ReadContents.stored c.args.content.now c.args.id in
    let w = c.args.self.now in
    let is = c.len-size.ensures.value in
    let e = c.in_err-resize.ensures in
    let less : c.len-size.result ≤ (g.C.ReadContents.stored c.args.content.now c.args.id).limit = omega (arith, is, h.agrees.within) in
    let why = e.refused h sound less in
    let takes : TakesLen s w.size = record { unfailed = h.agrees.unfailed; sound = sound; fits = h.agrees.within } in
    let never : c.in_err-resize.field-0.0 ≡ Full → ⊥ = (λ full.
    let long = subst (λ (z : Error). IsBreak (g.C.Contents.is_too_long c.resize.new.content c.args.id c.len-size.result) z) full why.0 in
    c.requires.fits h.told takes (subst (λ (n : ℕ). g.C.Contents.is_too_long c.args.content.now c.args.id n) is
    (subst (λ content. g.C.Contents.is_too_long content c.args.id c.len-size.result) (e.foreseen h sound less full) long))) in
    let p = err_from_is_err_and c.from_residual.result c.from_residual.ensures.1 in
    rw (p.1, p.2) (lacks_none _ _ _ _ _ _ c.in_err-resize.field-0.0 never why)

pub returns-in_err-resize-clause-foreseen : goal.returns-in_err-resize-clause-foreseen
returns-in_err-resize-clause-foreseen g c = λ (h : IsReady g.C.ReadContents c.args.content.now c.args.id c.args.self.now) (sound : (g.C.ReadContents.stored c.args.content.now c.args.id).sound ≡ true)
    (fits : c.args.len ≤ (g.C.ReadContents.stored c.args.content.now c.args.id).limit).
    let s = g.C.ReadContents.stored c.args.content.now c.args.id in
    let w = c.args.self.now in
    let is = c.len-size.ensures.value in
    let e = c.in_err-resize.ensures in
    let less : c.len-size.result ≤ (g.C.ReadContents.stored c.args.content.now c.args.id).limit = omega (arith, is, h.agrees.within) in
    let takes : TakesLen s w.size = record { unfailed = h.agrees.unfailed; sound = sound; fits = h.agrees.within } in
    let p = err_from_is_err_and c.from_residual.result c.from_residual.ensures.1 in
    rw (p.1, p.2) (λ full.
    let long = subst (λ (z : Error). IsBreak (g.C.Contents.is_too_long c.resize.new.content c.args.id c.len-size.result) z) full (e.refused h sound less).0 in
    c.requires.fits h.told takes (subst (λ (n : ℕ). g.C.Contents.is_too_long c.args.content.now c.args.id n) is
    (subst (λ content. g.C.Contents.is_too_long content c.args.id c.len-size.result) (e.foreseen h sound less full) long)))

pub returns-in_err-resize_again-clause-refused : goal.returns-in_err-resize_again-clause-refused
returns-in_err-resize_again-clause-refused g c = λ (h : IsReady g.C.ReadContents c.args.content.now c.args.id c.args.self.now) (sound : (g.C.ReadContents.stored c.args.content.now c.args.id).sound ≡ true)
    (fits : c.args.len ≤ (g.C.ReadContents.stored c.args.content.now c.args.id).limit).
    let s = g.C.ReadContents.stored c.args.content.now c.args.id in
    let t = g.C.ReadContents.stored c.resize.new.content c.args.id in
    let w = c.args.self.now in
    let v = c.resize.new.self in
    let is = c.len-size.ensures.value in
    let e = c.in_ok-resize.ensures in
    let k = subst (λ (n : ℕ). Resized n s w t v) is (e.ok h sound (omega (arith, is, h.agrees.within))) in
    let r : IsReady g.C.ReadContents c.resize.new.content c.args.id v = record { told = (e.writes.around h.told).told; agrees = k.agrees } in
    let why = c.in_err-resize_again.ensures.refused r (k.sound ∙ sound) (omega (arith, k.limit, fits)) in
    let p = err_from_is_err_and c.from_residual-in_err-resize_again.result c.from_residual-in_err-resize_again.ensures.1 in
    rw (p.1, p.2) (lost_after _ w.size s t _ w v _ c.in_err-resize_again.field-0.0 k why.0 why.1)

pub returns-in_err-resize_again-clause-foreseen : goal.returns-in_err-resize_again-clause-foreseen
returns-in_err-resize_again-clause-foreseen g c = λ (h : IsReady g.C.ReadContents c.args.content.now c.args.id c.args.self.now) (sound : (g.C.ReadContents.stored c.args.content.now c.args.id).sound ≡ true)
    (fits : c.args.len ≤ (g.C.ReadContents.stored c.args.content.now c.args.id).limit).
    let s = g.C.ReadContents.stored c.args.content.now c.args.id in
    let t = g.C.ReadContents.stored c.resize.new.content c.args.id in
    let w = c.args.self.now in
    let v = c.resize.new.self in
    let is = c.len-size.ensures.value in
    let e = c.in_ok-resize.ensures in
    let less : c.len-size.result ≤ s.limit = omega (arith, is, h.agrees.within) in
    let k = subst (λ (n : ℕ). Resized n s w t v) is (e.ok h sound less) in
    let r : IsReady g.C.ReadContents c.resize.new.content c.args.id v = record { told = (e.writes.around h.told).told; agrees = k.agrees } in
    let takes : TakesLen s c.args.len = record { unfailed = h.agrees.unfailed; sound = sound; fits = fits } in
    let out : TakesLen s c.len-size.result = record { unfailed = h.agrees.unfailed; sound = sound; fits = less } in
    let left = e.leaves_room h.told out (omega (arith, is, c.requires.behind)) c.args.len (omega (arith, is, c.requires.longer)) in
    let p = err_from_is_err_and c.from_residual-in_err-resize_again.result c.from_residual-in_err-resize_again.ensures.1 in
    rw (p.1, p.2) (c.in_err-resize_again.ensures.fits r (k.sound ∙ sound) (omega (arith, k.limit, fits)) (λ long. c.requires.longer_fits h.told takes (left long)))

pub returns-in_err-resize-clause-between : goal.returns-in_err-resize-clause-between
returns-in_err-resize-clause-between g c = λ told. once_between g.C.ReadContents g.C.Contents g.met.C.Contents.still_is_tight _ _ _ _ _ told (c.in_err-resize.ensures.writes.around told)

pub returns-clause-between : goal.returns-clause-between
returns-clause-between g c = λ told.
    let s = g.C.ReadContents.stored c.args.content.now c.args.id in
    let t = g.C.ReadContents.stored c.resize.new.content c.args.id in
    let w = c.args.self.now in
    let is = c.len-size.ensures.value in
    let e = c.in_ok-resize.ensures in
    let then' = c.in_ok-resize_again.ensures.writes.around (e.writes.around told).told in (
      c.resize.new.content,
      record {
        told = (e.writes.around told).told;
        calm = λ calm. absurd (let x : true ≡ false = sym c.requires.pending ∙ calm in cc);
        settles = λ (a : LiesOver s w). inr (
          c.requires.pending,
          resized_settled s t w c.resize.new.self a (a.trusted c.requires.pending)
              (subst (λ (n : ℕ). Resized n s w t c.resize.new.self) is (e.ok (record { told = told; agrees = a }) (a.trusted c.requires.pending) (omega (arith, is, a.within)))),
        );
        before = (e.writes.around told).others;
        after = then'.others;
        first = (e.writes.around told).tight;
        second = then'.tight;
      },
    )

pub returns-in_err-resize_again-clause-between : goal.returns-in_err-resize_again-clause-between
returns-in_err-resize_again-clause-between g c = λ told.
    let s = g.C.ReadContents.stored c.args.content.now c.args.id in
    let t = g.C.ReadContents.stored c.resize.new.content c.args.id in
    let w = c.args.self.now in
    let is = c.len-size.ensures.value in
    let e = c.in_ok-resize.ensures in
    let then' = c.in_err-resize_again.ensures.writes.around (e.writes.around told).told in (
      c.resize.new.content,
      record {
        told = (e.writes.around told).told;
        calm = λ calm. absurd (let x : true ≡ false = sym c.requires.pending ∙ calm in cc);
        settles = λ (a : LiesOver s w). inr (
          c.requires.pending,
          resized_settled s t w c.resize.new.self a (a.trusted c.requires.pending)
              (subst (λ (n : ℕ). Resized n s w t c.resize.new.self) is (e.ok (record { told = told; agrees = a }) (a.trusted c.requires.pending) (omega (arith, is, a.within)))),
        );
        before = (e.writes.around told).others;
        after = then'.others;
        first = (e.writes.around told).tight;
        second = then'.tight;
      },
    )

pub returns-clause-writes_out : goal.returns-clause-writes_out
returns-clause-writes_out g c = λ (h : IsReady g.C.ReadContents c.args.content.now c.args.id c.args.self.now).
    let s = g.C.ReadContents.stored c.args.content.now c.args.id in
    let t = g.C.ReadContents.stored c.resize.new.content c.args.id in
    let w = c.args.self.now in
    let is = c.len-size.ensures.value in
    let sound = h.agrees.trusted c.requires.pending in
    let e = c.in_ok-resize.ensures in
    let out = e.writes.around h.told in
    let then' = c.in_ok-resize_again.ensures.writes.around out.told in
    let settles = resized_settled s t w c.resize.new.self h.agrees sound (subst (λ (n : ℕ). Resized n s w t c.resize.new.self) is (e.ok h sound (omega (arith, is, h.agrees.within)))) in
    record {
      mid = c.resize.new.content;
      between = record {
        told = out.told;
        calm = λ calm. absurd (let x : true ≡ false = sym c.requires.pending ∙ calm in cc);
        settles = λ (a : LiesOver s w). inr (c.requires.pending, settles);
        before = out.others;
        after = then'.others;
        first = out.tight;
        second = then'.tight;
      };
      settles = settles;
    }
