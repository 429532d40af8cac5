use Rattle.std.proofs.Common.{◌≡◌, ◌≤◌, arith, inl, length, subst, sym, take, List, ℕ, OnOk}
use Rattle.cfb_journal.specs.Disk.{Image}
use Rattle.cfb_journal.specs.Journal.{Agree, Restores, RestoresEither, applied, body_bytes, journal_of}
use Rattle.cfb_journal.specs.Overlay.{contents, frames_from}
use Rattle.cfb_journal.specs.Stamp.{stamp_of}
use Rattle.cfb_journal.specs.States.{Meanwhile, IsOn}
use Rattle.cfb_journal.proofs.Beginning.{whole}
use Rattle.cfb_journal.proofs.Clock.{weaker, joined}
use Rattle.cfb_journal.proofs.Committing.{is_staged}
use Rattle.cfb_journal.proofs.stages.commit_at_once.Goals as goal

pub carry_out-requires-clause-staged : goal.carry_out-requires-clause-staged
carry_out-requires-clause-staged g c tells =
    let v0 = g.D.Disk.view c.args.disk.now in
    let v1 = g.D.Disk.view c.stage_at_once.new.disk in
    let told = c.requires.told tells in
    let all = whole c.args.len c.ranges.len.fits v0.seen.file told.sized in
    let body = body_bytes c.args.len c.args.stamp (frames_from 0 (contents c.args.blocks.now)) in
    let within : c.args.len ≤ length v0.seen.file = omega (arith, told.sized) in
    is_staged c.args.len c.args.len c.args.stamp (contents c.args.blocks.now) c.ranges.len.fits c.requires.table v0 v1
    (c.in_ok-stage_at_once.ensures.file tells) within told
    (subst (λ (f : List ℕ). IsOn (journal_of c.args.len (stamp_of f) 0 1 body) v1) (sym all) (c.in_ok-stage_at_once.ensures.staged tells))

pub returns-clause-done : goal.returns-clause-done
returns-clause-done g c tells =
    subst (λ f. OnOk c.carry_out.result ((g.D.Disk.view c.carry_out.new.disk).seen.file ≡ applied (frames_from 0 (contents c.args.blocks.now)) f)) (c.in_ok-stage_at_once.ensures.file tells) (c.carry_out.ensures.done tells)

pub returns-clause-file : goal.returns-clause-file
returns-clause-file g c tells =
    subst (λ f. Agree (frames_from 0 (contents c.args.blocks.now)) f (g.D.Disk.view c.carry_out.new.disk).seen.file) (c.in_ok-stage_at_once.ensures.file tells) (c.carry_out.ensures.file tells)

pub returns-in_err-stage_at_once-clause-any_moment :
    goal.returns-in_err-stage_at_once-clause-any_moment
returns-in_err-stage_at_once-clause-any_moment g c tells =
    let v0 = g.D.Disk.view c.args.disk.now in
    let v1 = g.D.Disk.view c.stage_at_once.new.disk in
    let frames = frames_from 0 (contents c.args.blocks.now) in
    let all = whole c.args.len c.ranges.len.fits v0.seen.file (c.requires.told tells).sized in
    weaker {a = v0} {b = v1} (Restores v0.seen.file) (RestoresEither (take c.args.len v0.seen.file) (applied frames v0.seen.file)) (λ i r. inl (subst (λ f. Restores f i) (sym all) r))
    (c.stage_at_once.ensures.any_moment tells)

pub returns-clause-any_moment : goal.returns-clause-any_moment
returns-clause-any_moment g c tells =
    let v0 = g.D.Disk.view c.args.disk.now in
    let v1 = g.D.Disk.view c.stage_at_once.new.disk in
    let v2 = g.D.Disk.view c.carry_out.new.disk in
    let frames = frames_from 0 (contents c.args.blocks.now) in
    let all = whole c.args.len c.ranges.len.fits v0.seen.file (c.requires.told tells).sized in
    let P : Image → Type 0 = RestoresEither (take c.args.len v0.seen.file) (applied frames v0.seen.file) in
    joined {a = v0} {b = v1} {c = v2} P
    (weaker {a = v0} {b = v1} (Restores v0.seen.file) P (λ i r. inl (subst (λ f. Restores f i) (sym all) r)) (c.in_ok-stage_at_once.ensures.any_moment tells))
    (subst (λ f. Meanwhile v1 v2 (RestoresEither (take c.args.len f) (applied frames f))) (c.in_ok-stage_at_once.ensures.file tells) (c.carry_out.ensures.any_moment tells))
