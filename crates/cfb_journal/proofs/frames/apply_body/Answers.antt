use Rattle.std.proofs.Common.{◌≡◌, ◌∙◌, ◌-◌, ap, subst, length, take, drop, List, OnOk}
use Rattle.std.proofs.lemmas.List.{take_rest}
use Rattle.cfb_format.specs.Bytes.{long_at}
use Rattle.cfb_journal.specs.Journal.{Frame, applied, frames_of}
use Rattle.cfb_journal.specs.States.{IsApplying, IsWithin, Meanwhile}
use Rattle.cfb_journal.proofs.frames.apply_body.Goals as goal

pub returns-clause-applied : goal.returns-clause-applied
returns-clause-applied g c tells =
    let body = c.args.body.now in
    let same = ap (λ k. frames_of k (take (length body - 24) (drop 24 body))) c.u64_at.ensures ∙ ap (frames_of (long_at body 16)) (take_rest body 24) in
    subst (λ (fs : List Frame). OnOk c.apply_frames.result ((g.D.Disk.view c.apply_frames.new.disk).seen.file ≡ applied fs (g.D.Disk.view c.args.disk.now).seen.file)) same
    (c.apply_frames.ensures.applied tells)

pub returns-clause-within : goal.returns-clause-within
returns-clause-within g c tells =
    let body = c.args.body.now in
    let same = ap (λ k. frames_of k (take (length body - 24) (drop 24 body))) c.u64_at.ensures ∙ ap (frames_of (long_at body 16)) (take_rest body 24) in
    subst (λ (fs : List Frame). IsApplying fs (g.D.Disk.view c.args.disk.now).seen.file (g.D.Disk.view c.args.disk.now).seen.journal (g.D.Disk.view c.apply_frames.new.disk)) same
    (c.apply_frames.ensures.within tells)

pub returns-clause-any_moment : goal.returns-clause-any_moment
returns-clause-any_moment g c tells =
    let body = c.args.body.now in
    let same = ap (λ k. frames_of k (take (length body - 24) (drop 24 body))) c.u64_at.ensures ∙ ap (frames_of (long_at body 16)) (take_rest body 24) in
    subst (λ (fs : List Frame). Meanwhile (g.D.Disk.view c.args.disk.now) (g.D.Disk.view c.apply_frames.new.disk) (IsWithin fs (g.D.Disk.view c.args.disk.now).seen.file (g.D.Disk.view c.args.disk.now).seen.journal)) same
    (c.apply_frames.ensures.any_moment tells)
