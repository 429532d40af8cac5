use Rattle.std.proofs.Common.{◌≡◌, ◌∙◌, ◌+◌, ◌-◌, ◌≤◌, inl, inr, ap, length, drop, take, max, min, arith}
use Rattle.cfb_format.specs.Medium.{part}
use Rattle.cfb_format.proofs.ByteLemmas.{put_mid_written, length-part}
use Rattle.cfb_journal.proofs.LaidFrames.{shows_laid, shows_apart}
use Rattle.cfb_journal.proofs.laying.lay_frame.Goals as goal
use Rattle.cfb_journal.proofs.laying.lay_frame.Goals.{then-place-end-via-then-place-end, then-place-end-via-else-place-end+then-frame_end-at}

pub returns-then-place-end : goal.returns-then-place-end
returns-then-place-end c =
    shows_apart c.args.at c.args.into.now c.args.place c.args.framed.now
    (elim c.then-place-end.branch [
      | then-place-end-via-then-place-end w ↦ inl (omega (arith, w.if-place-end.true))
      | then-place-end-via-else-place-end+then-frame_end-at w ↦ inr (omega (arith, w.if-frame_end-at.true))
    ])

pub returns : goal.returns
returns c =
    let old = c.args.into.now in
    let at = c.args.at in
    let place = c.args.place in
    let framed = c.args.framed.now in
    let first = c.max-first.result in
    let last = c.min-last.result in
    let first_is : first ≡ max place at = omega (arith, c.max-first.ensures) in
    let last_is : last ≡ min (at + length old) (place + length framed) = omega (arith, c.min-last.ensures) in
    let some : first ≤ last = omega (arith, first_is, last_is, c.if-place-end.false, c.if-frame_end-at.false) in
    let short : last - place - (first - place) ≡ last - first = omega (arith, first_is, some) in
    let piece = c.copy_from_slice.ensures.after ∙ ap (λ k. take k (drop (first - place) framed)) short in
    let size : last - at - (first - at) ≡ length (part framed (first - place) (last - first)) = omega (arith, length-part framed (first - place) (last - first), first_is, last_is, some) in
    shows_laid at old _ place framed first last first_is last_is some
    (put_mid_written old (first - at) (last - at - (first - at)) (part framed (first - place) (last - first)) c.copy_from_slice.new.self (omega (arith, first_is, last_is, some)) size piece)
