use Rattle.std.proofs.lemmas.Grind.{common_steps}
use Rattle.std.proofs.Common.{◌≡◌, ◌<◌, ◌≤◌, ◌+◌, ◌∙◌, ℕ, length, take, arith, sym, refl, inl, length-take, rules}
use Rattle.std.proofs.lemmas.List.{take-take}
use Rattle.std.proofs.lemmas.Result.{err_from_is_err_and}
use Rattle.cfb_format.specs.Refused.{IsMemory}
use Rattle.cfb_stream_window.specs.cfb_rules.Runs.{any_cause}
use Rattle.cfb_stream_window.specs.cfb_rules.StreamCalls.{write}
use Rattle.cfb_stream_window.specs.Answers.{IsOpen, IsReady}
use Rattle.cfb_stream_window.proofs.InTurn.{once_between}
use Rattle.cfb_stream_window.proofs.Reading.{not_empty, is_empty_from}
use Rattle.cfb_stream_window.proofs.Refusing.{failed_for, broke_for}
use Rattle.cfb_stream_window.proofs.Writing.{nothing_written, no_room_refused, unsound_refused, straight_runs, kept_runs, kept_agrees, written_broken}
use Rattle.cfb_stream_window.proofs.window.Window.write.Goals as goal

pub returns-then-is_failed-clause-refused : goal.returns-then-is_failed-clause-refused
returns-then-is_failed-clause-refused g c = λ _.
    failed_for _ _ _ _ _ (write c.args.bytes.now) (sym c.is_failed.ensures ∙ c.if-is_failed.true) refl

pub returns-then-is_empty-clause-runs : goal.returns-then-is_empty-clause-runs
returns-then-is_empty-clause-runs g c = λ _.
    nothing_written _ _ _ c.args.bytes.now (sym c.is_failed.ensures ∙ c.if-is_failed.false) _ c.take_back.ensures (is_empty_from _ (sym c.is_empty.ensures ∙ c.if-is_empty.true))

pub returns-then-limit-at-clause-refused : goal.returns-then-limit-at-clause-refused
returns-then-limit-at-clause-refused g c = λ _.
    record {
      rules = no_room_refused _ _ _ c.args.bytes.now (sym c.is_failed.ensures ∙ c.if-is_failed.false) c.text.result (not_empty _ (sym c.is_empty.ensures ∙ c.if-is_empty.false)) (omega arith);
      stops = inl refl;
      untouched = (refl, refl);
    }

pub returns-then-not-is_sound-clause-refused : goal.returns-then-not-is_sound-clause-refused
returns-then-not-is_sound-clause-refused g c = λ _.
    record {
      rules = unsound_refused _ _ _ c.args.bytes.now (sym c.is_failed.ensures ∙ c.if-is_failed.false) (not_empty _ (sym c.is_empty.ensures ∙ c.if-is_empty.false)) (omega arith) (sym c.is_sound.ensures ∙ c.if-not-is_sound.true);
      stops = inl refl;
      untouched = (refl, refl);
    }

pub returns-then-bytes-ge-STRAIGHT-clause-runs : goal.returns-then-bytes-ge-STRAIGHT-clause-runs
returns-then-bytes-ge-STRAIGHT-clause-runs g c = λ (h : IsOpen g.C.ReadContents c.args.content.now c.args.id c.args.self.now).
    let f = sym c.is_failed.ensures ∙ c.if-is_failed.false in
    let r : IsReady g.C.ReadContents c.args.content.now c.args.id c.args.self.now = record { told = h.told; agrees = h.suits f } in
    let sound = sym c.is_sound.ensures ∙ c.if-not-is_sound.false in
    let some : 0 < length c.args.bytes.now = not_empty _ (sym c.is_empty.ensures ∙ c.if-is_empty.false) in
    let most = c.min-most.result in
    let len : length (take most c.args.bytes.now) ≡ most = omega (arith, length-take most c.args.bytes.now) in
    let e = c.in_ok-count.ensures in
    let n = c.in_ok-count.count in
    let within : n ≤ most = omega (arith, e.most, len) in
    let k = e.ok r sound (omega (arith, len)) (omega (arith, some, len)) in
    straight_runs _ _ _ _ _ c.args.bytes.now (take n (take most c.args.bytes.now)) n f sound k.0 (omega (arith, within)) (omega (arith, within)) (take-take n most c.args.bytes.now within)
    (omega (arith, length-take {A = ℕ} n (take most c.args.bytes.now), len)) k.1

pub returns-in_err-count-clause-refused : goal.returns-in_err-count-clause-refused
returns-in_err-count-clause-refused g c = λ (h : IsOpen g.C.ReadContents c.args.content.now c.args.id c.args.self.now).
    let f = sym c.is_failed.ensures ∙ c.if-is_failed.false in
    let r : IsReady g.C.ReadContents c.args.content.now c.args.id c.args.self.now = record { told = h.told; agrees = h.suits f } in
    let sound = sym c.is_sound.ensures ∙ c.if-not-is_sound.false in
    let some : 0 < length c.args.bytes.now = not_empty _ (sym c.is_empty.ensures ∙ c.if-is_empty.false) in
    let before : c.args.self.now.base + c.args.self.now.cursor < (g.C.ReadContents.stored c.args.content.now c.args.id).limit = omega (arith) in
    let n = c.min-most.result in
    let len : length (take n c.args.bytes.now) ≡ n = omega (arith, length-take n c.args.bytes.now) in
    let e = c.in_err-count.ensures in
    let why = e.refused r sound (omega (arith, len)) (omega (arith, some, len)) in
    let p = err_from_is_err_and c.from_residual.result c.from_residual.ensures.1 in
    rw (p.1, p.2) (broke_for _ _ _ _ _ _ _ _ _ (written_broken _ _ _ _ _ _ _ _ c.args.bytes.now _ some f (before, sound) (e.around h.told).counts why) _ _ IsMemory why)

pub returns-in_err-have_room-clause-refused : goal.returns-in_err-have_room-clause-refused
returns-in_err-have_room-clause-refused g c = λ (h : IsOpen g.C.ReadContents c.args.content.now c.args.id c.args.self.now).
    let f = sym c.is_failed.ensures ∙ c.if-is_failed.false in
    let r : IsReady g.C.ReadContents c.args.content.now c.args.id c.args.self.now = record { told = h.told; agrees = h.suits f } in
    let sound = sym c.is_sound.ensures ∙ c.if-not-is_sound.false in
    let before : c.args.self.now.base + c.args.self.now.cursor < (g.C.ReadContents.stored c.args.content.now c.args.id).limit = omega (arith) in
    let some : 0 < length c.args.bytes.now = not_empty _ (sym c.is_empty.ensures ∙ c.if-is_empty.false) in
    let e = c.in_err-have_room.ensures in
    let why = e.refused r in
    let p = err_from_is_err_and c.from_residual-in_err-have_room.result c.from_residual-in_err-have_room.ensures.1 in
    rw (p.1, p.2) (broke_for _ _ _ _ _ _ _ _ _ (written_broken _ _ _ _ _ _ _ _ c.args.bytes.now _ some f (before, sound) (e.writes.around h.told).counts why) _ _ IsMemory why)

pub returns-clause-runs : goal.returns-clause-runs
returns-clause-runs g c = λ (h : IsOpen g.C.ReadContents c.args.content.now c.args.id c.args.self.now).
    let f = sym c.is_failed.ensures ∙ c.if-is_failed.false in
    let r : IsReady g.C.ReadContents c.args.content.now c.args.id c.args.self.now = record { told = h.told; agrees = h.suits f } in
    let some : 0 < length c.args.bytes.now = not_empty _ (sym c.is_empty.ensures ∙ c.if-is_empty.false) in
    let had = c.in_ok-have_room.ensures in
    let k = had.ok r in
    let n = c.keep.result in
    let most = c.min-most.result in
    let bytes = c.args.bytes.now in
    let within : n ≤ most = omega (arith, length-take {A = ℕ} most bytes) in
    kept_runs _ _ _ _ _ _ bytes (take n (take most bytes)) n f k (sym c.is_sound.ensures ∙ c.if-not-is_sound.false)
    (omega (arith, length-take {A = ℕ} n (take most bytes), length-take {A = ℕ} most bytes)) (take-take n most bytes within) c.keep.ensures.inside
    (omega (arith, k.place)) c.keep.ensures.window (omega (arith, length-take {A = ℕ} most bytes, some, had.room)) (omega (arith))

pub returns-clause-open : goal.returns-clause-open
returns-clause-open g c = record {
  there = first_of (search rules, grind (arith, common_steps));
  flags = first_of (search rules, grind (arith, common_steps));
  goes_on = (
      λ (h : IsOpen g.C.ReadContents c.args.content.now c.args.id c.args.self.now).
      let f = sym c.is_failed.ensures ∙ c.if-is_failed.false in
      let r : IsReady g.C.ReadContents c.args.content.now c.args.id c.args.self.now = record { told = h.told; agrees = h.suits f } in
      let had = c.in_ok-have_room.ensures in
      let k = had.ok r in
      let n = c.keep.result in
      let most = c.min-most.result in
      let bytes = c.args.bytes.now in
      let within : n ≤ most = omega (arith, length-take {A = ℕ} most bytes) in
      let a = kept_agrees any_cause _ _ _ _ _ bytes (take n (take most bytes)) n f k (sym c.is_sound.ensures ∙ c.if-not-is_sound.false)
      (omega (arith, length-take {A = ℕ} n (take most bytes), length-take {A = ℕ} most bytes)) (take-take n most bytes within) c.keep.ensures.inside
      (omega (arith, k.place)) c.keep.ensures.window in
      record { is_open = record { told = (had.writes.around h.told).told; suits = λ _. a }; limit = k.limit; sound = k.sound }
      );
  bound = first_of (search rules, grind (arith, common_steps));
}

pub returns-clause-between : goal.returns-clause-between
returns-clause-between g c = λ told. once_between g.C.ReadContents g.C.Contents g.met.C.Contents.still_is_tight _ _ _ _ _ told (c.in_ok-have_room.ensures.writes.around told)
