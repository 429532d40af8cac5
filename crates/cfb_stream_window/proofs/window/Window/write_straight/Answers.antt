use Rattle.std.proofs.Common.{◌≡◌, ◌≤◌, ◌<◌, ◌+◌, ◌∙◌, ℕ, length, take, max, true, ap, sym, subst, arith, inr, length-take}
use Rattle.cfb_format.specs.Refused.{IsBreak}
use Rattle.cfb_format.specs.declared.error.Error.{Error}
use Rattle.cfb_format.specs.declared.error.Error.TheVariants.{Full}
use Rattle.cfb_stream_window.specs.Answers.{IsReady}
use Rattle.cfb_stream_window.specs.Contents.{Stored, TakesBytes, stored_after_write}
use Rattle.cfb_stream_window.specs.Windows.{LiesOver, Window}
use Rattle.cfb_stream_window.proofs.InTurn.{once_between, settled_if}
use Rattle.cfb_stream_window.proofs.Writing.{straight_to}
use Rattle.cfb_stream_window.proofs.window.Window.write_straight.Goals as goal

pub returns-in-Ok-clause-ok : goal.returns-in-Ok-clause-ok
returns-in-Ok-clause-ok g c = λ (h : IsReady g.C.ReadContents c.args.content.now c.args.id c.args.self.now) (sound : (g.C.ReadContents.stored c.args.content.now c.args.id).sound ≡ true)
    (fits : c.args.self.now.base + c.args.self.now.cursor + length c.args.bytes.now ≤ (g.C.ReadContents.stored c.args.content.now c.args.id).limit) (some : 0 < length c.args.bytes.now).
    let left = c.in_ok-leave.ensures in
    let k = left.ok h in
    let n = c.in-Ok.count in
    let v = c.leave.new.self in
    let t = g.C.ReadContents.stored c.leave.new.content c.args.id in
    let at = ap (λ (z : Window). z.base) c.self-2.view_is in
    let base = ap (λ (z : Window). z.base) left.window in
    let e = c.in-Ok.ensures in
    let takes : TakesBytes t c.self-2.inside.base (length c.args.bytes.now) =
    record { unfailed = k.agrees.unfailed; sound = k.sound ∙ sound; inside = omega (arith, at, k.agrees.begins); fits = omega (arith, at, base, k.limit) } in
    let put = e.ok (left.writes.around h.told).told takes some in
    let len : length (take n c.args.bytes.now) ≡ n = omega (arith, length-take n c.args.bytes.now, e.bound) in (
      put.some,
      straight_to _ _ _ _ (take n c.args.bytes.now) k sound (ap (λ (z : Window). z.filled) left.window) (ap (λ (z : Window). z.cursor) left.window) (ap (λ (z : Window). z.pending) left.window)
          (ap (λ (z : Window). z.ahead) left.window) (omega (arith, len, e.bound, fits)) _ _
          (put.puts ∙ ap (λ (b : ℕ). stored_after_write t b (take n c.args.bytes.now)) at)
          (c.pass.ensures ∙ ap (λ (m : ℕ). record v { base = v.base + m; size = max v.size (v.base + m) }) (sym len)),
    )

pub returns-in_err-leave-clause-between : goal.returns-in_err-leave-clause-between
returns-in_err-leave-clause-between g c = λ told. once_between g.C.ReadContents g.C.Contents g.met.C.Contents.still_is_tight _ _ _ _ _ told (c.in_err-leave.ensures.writes.around told)

pub returns-in-Ok-clause-between : goal.returns-in-Ok-clause-between
returns-in-Ok-clause-between g c = λ told.
    let s = g.C.ReadContents.stored c.args.content.now c.args.id in
    let t = g.C.ReadContents.stored c.leave.new.content c.args.id in
    let left = c.in_ok-leave.ensures in
    let out = left.writes.around told in
    let e = c.in-Ok.ensures in (
      c.leave.new.content,
      record {
        told = out.told;
        calm = left.calm;
        settles = λ (a : LiesOver s c.args.self.now). settled_if s t c.args.self.now (λ calm. ap (λ content. g.C.ReadContents.stored content c.args.id) (left.calm calm)) (left.stored (record { told = told; agrees = a }));
        before = out.others;
        after = e.others out.told;
        first = out.tight;
        second = e.tight out.told;
      },
    )

pub returns-in-Err-clause-between : goal.returns-in-Err-clause-between
returns-in-Err-clause-between g c = λ told.
    let s = g.C.ReadContents.stored c.args.content.now c.args.id in
    let t = g.C.ReadContents.stored c.leave.new.content c.args.id in
    let left = c.in_ok-leave.ensures in
    let out = left.writes.around told in
    let e = c.in-Err.ensures in
    let up = c.give_up.ensures in (
      c.leave.new.content,
      record {
        told = out.told;
        calm = left.calm;
        settles = λ (a : LiesOver s c.args.self.now). settled_if s t c.args.self.now (λ calm. ap (λ content. g.C.ReadContents.stored content c.args.id) (left.calm calm)) (left.stored (record { told = told; agrees = a }));
        before = out.others;
        after = λ first h. up.others (e.told out.told) first (e.others out.told first h);
        first = out.tight;
        second = up.tight (e.told out.told) _ (e.tight out.told);
      },
    )

pub returns-in-Err-clause-foreseen : goal.returns-in-Err-clause-foreseen
returns-in-Err-clause-foreseen g c = λ (h : IsReady g.C.ReadContents c.args.content.now c.args.id c.args.self.now) (sound : (g.C.ReadContents.stored c.args.content.now c.args.id).sound ≡ true)
    (fits : c.args.self.now.base + c.args.self.now.cursor + length c.args.bytes.now ≤ (g.C.ReadContents.stored c.args.content.now c.args.id).limit) (some : 0 < length c.args.bytes.now) (full : c.in-Err.e ≡ Full).
    let s = g.C.ReadContents.stored c.args.content.now c.args.id in
    let t = g.C.ReadContents.stored c.leave.new.content c.args.id in
    let w = c.args.self.now in
    let left = c.in_ok-leave.ensures in
    let out = left.writes.around h.told in
    let k = left.ok h in
    let e = c.in-Err.ensures in
    let up = c.give_up.ensures in
    let at = ap (λ (z : Window). z.base) c.self-2.view_is in
    let base = ap (λ (z : Window). z.base) left.window in
    let takes : TakesBytes t c.self-2.inside.base (length c.args.bytes.now) =
    record { unfailed = k.agrees.unfailed; sound = k.sound ∙ sound; inside = omega (arith, at, k.agrees.begins); fits = omega (arith, at, base, k.limit) } in
    let end = (subst (λ (z : Error). IsBreak ((t.size ≤ c.self-2.inside.base) × g.C.Contents.is_full c.write_at.new.self) z) full (e.refused out.told takes some).0).0 in
    let size : t.size ≡ w.size = ap (λ (z : Stored). z.size) (left.stored h) in
    inr (record {
      first = record {
        mid = c.leave.new.content;
        between = record {
          told = out.told;
          calm = left.calm;
          settles = λ (a : LiesOver s w). settled_if s t w (λ calm. ap (λ content. g.C.ReadContents.stored content c.args.id) (left.calm calm)) (left.stored h);
          before = out.others;
          after = λ first k. up.others (e.told out.told) first (e.others out.told first k);
          first = out.tight;
          second = up.tight (e.told out.told) _ (e.tight out.told);
        };
        settles = left.stored h;
      };
      at_end = omega (arith, end, at, base, size, k.agrees.begins);
      too_long = subst (λ (n : ℕ). g.C.Contents.is_too_long c.leave.new.content c.args.id (n + 1)) size (e.foreseen out.told takes some full);
    })
