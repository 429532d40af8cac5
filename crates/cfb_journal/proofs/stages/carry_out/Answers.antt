use Rattle.std.proofs.Common.{◌∙◌, inr, refl, ap, subst, take}
use Rattle.cfb_journal.specs.Disk.{Image}
use Rattle.cfb_journal.specs.Journal.{Restores, RestoresEither, applied}
use Rattle.cfb_journal.specs.Overlay.{contents, frames_from}
use Rattle.cfb_journal.specs.States.{IsWithin}
use Rattle.cfb_journal.proofs.Clock.{weaker, joined}
use Rattle.cfb_journal.proofs.Committing.{gate_run, gate_is, writing, settling}
use Rattle.cfb_journal.proofs.stages.carry_out.Goals as goal

pub settle-requires : goal.settle-requires
settle-requires g c tells =
    let v0 = g.D.Disk.view c.args.disk.now in
    let frames = frames_from 0 (contents c.args.blocks.now) in
    let s = c.requires.staged tells in
    let put = c.in_ok-put_through.ensures tells in
    settling c.args.base c.ranges.base.fits s.body v0.seen.file frames s.has s.within s.of
    _ _ _ put.file (gate_is c.args.base c.ranges.base.fits s.body v0.seen.file frames s.has s.within s.of c.in_ok-put_through.field-0 _ _ s.is_on put)
    (c.in_ok-apply_blocks.ensures.applied tells) (c.in_ok-apply_blocks.ensures.within tells)

pub returns-in_err-put_through-clause-any_moment :
    goal.returns-in_err-put_through-clause-any_moment
returns-in_err-put_through-clause-any_moment g c tells =
    let v0 = g.D.Disk.view c.args.disk.now in
    let s = c.requires.staged tells in
    gate_run c.args.base c.ranges.base.fits s.body v0.seen.file (frames_from 0 (contents c.args.blocks.now)) s.has s.within s.of c.put_through.result v0 _ refl s.is_on (c.put_through.ensures tells)

pub returns-in_err-apply_blocks-clause-any_moment :
    goal.returns-in_err-apply_blocks-clause-any_moment
returns-in_err-apply_blocks-clause-any_moment g c tells =
    let v0 = g.D.Disk.view c.args.disk.now in
    let v1 = g.D.Disk.view c.put_through.new.disk in
    let v2 = g.D.Disk.view c.apply_blocks.new.disk in
    let frames = frames_from 0 (contents c.args.blocks.now) in
    let s = c.requires.staged tells in
    let put = c.in_ok-put_through.ensures tells in
    let P : Image → Type 0 = RestoresEither (take c.args.base v0.seen.file) (applied frames v0.seen.file) in
    let is = gate_is c.args.base c.ranges.base.fits s.body v0.seen.file frames s.has s.within s.of c.in_ok-put_through.field-0 _ _ s.is_on put in
    joined {a = v0} {b = v1} {c = v2} P
    (gate_run c.args.base c.ranges.base.fits s.body v0.seen.file frames s.has s.within s.of c.put_through.result v0 v1 refl s.is_on (c.put_through.ensures tells))
    (weaker {a = v1} {b = v2} (IsWithin frames v1.seen.file v1.seen.journal) P
    (λ i w. inr (writing c.args.base c.ranges.base.fits s.body v0.seen.file frames s.has s.within s.of i v1.seen.file v1.seen.journal put.file is w))
    (c.apply_blocks.ensures.any_moment tells))

pub returns-clause-any_moment : goal.returns-clause-any_moment
returns-clause-any_moment g c tells =
    let v0 = g.D.Disk.view c.args.disk.now in
    let v1 = g.D.Disk.view c.put_through.new.disk in
    let v2 = g.D.Disk.view c.apply_blocks.new.disk in
    let v3 = g.D.Disk.view c.settle.new.disk in
    let frames = frames_from 0 (contents c.args.blocks.now) in
    let s = c.requires.staged tells in
    let put = c.in_ok-put_through.ensures tells in
    let P : Image → Type 0 = RestoresEither (take c.args.base v0.seen.file) (applied frames v0.seen.file) in
    let is = gate_is c.args.base c.ranges.base.fits s.body v0.seen.file frames s.has s.within s.of c.in_ok-put_through.field-0 _ _ s.is_on put in
    let ends = c.in_ok-apply_blocks.ensures.applied tells ∙ ap (applied frames) put.file in
    joined {a = v0} {b = v2} {c = v3} P
    (joined {a = v0} {b = v1} {c = v2} P
    (gate_run c.args.base c.ranges.base.fits s.body v0.seen.file frames s.has s.within s.of c.put_through.result v0 v1 refl s.is_on (c.put_through.ensures tells))
    (weaker {a = v1} {b = v2} (IsWithin frames v1.seen.file v1.seen.journal) P
    (λ i w. inr (writing c.args.base c.ranges.base.fits s.body v0.seen.file frames s.has s.within s.of i v1.seen.file v1.seen.journal put.file is w))
    (c.apply_blocks.ensures.any_moment tells)))
    (weaker {a = v2} {b = v3} (Restores v2.seen.file) P (λ i r. inr (subst (λ f. Restores f i) ends r)) (c.settle.ensures.any_moment tells))
