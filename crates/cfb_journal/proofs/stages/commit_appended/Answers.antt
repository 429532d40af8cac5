use Rattle.std.proofs.Common.{inl, take}
use Rattle.cfb_journal.specs.Journal.{Restores, RestoresEither}
use Rattle.cfb_journal.proofs.Appending.{appended_run, appended_on, appended_open, appended_end}
use Rattle.cfb_journal.proofs.Clock.{weaker}
use Rattle.cfb_journal.proofs.stages.commit_appended.Goals as goal

pub shut-requires-clause-on : goal.shut-requires-clause-on
shut-requires-clause-on g c tells =
    appended_on c.args.base c.ranges.base.fits (g.D.Disk.view c.args.disk.now) _ (c.requires.changing tells) c.in_ok-sync_file.field-0 (c.in_ok-sync_file.ensures.honest tells)

pub shut-requires-clause-open : goal.shut-requires-clause-open
shut-requires-clause-open g c tells =
    appended_open c.args.base c.ranges.base.fits (g.D.Disk.view c.args.disk.now) _ (c.requires.changing tells) c.in_ok-sync_file.field-0 (c.in_ok-sync_file.ensures.honest tells)

pub returns-in_err-sync_file-clause-any_moment : goal.returns-in_err-sync_file-clause-any_moment
returns-in_err-sync_file-clause-any_moment g c tells =
    let v0 = g.D.Disk.view c.args.disk.now in
    let v1 = g.D.Disk.view c.sync_file.new.self in
    weaker {a = v0} {b = v1} (Restores (take c.args.base v0.seen.file)) (RestoresEither (take c.args.base v0.seen.file) v0.seen.file) (λ i r. inl r)
    (appended_run c.args.base c.ranges.base.fits v0 v1 (c.requires.changing tells) c.sync_file.result (c.sync_file.ensures.honest tells))

pub returns-clause-any_moment : goal.returns-clause-any_moment
returns-clause-any_moment g c tells =
    appended_end c.args.base c.ranges.base.fits (g.D.Disk.view c.args.disk.now) (g.D.Disk.view c.sync_file.new.self) (c.requires.changing tells) c.in_ok-sync_file.field-0 _
    (c.in_ok-sync_file.ensures.honest tells) (c.shut.ensures.any_moment tells)
