use Rattle.std.proofs.Common.{◌∙◌, ap, length}
use Rattle.cfb_journal.specs.Journal.{body_bytes, Restores}
use Rattle.cfb_journal.specs.Overlay.{contents, frames_from}
use Rattle.cfb_journal.proofs.AtOnce.{gate_put, gate_put_run, body_put_run, staged_at_once}
use Rattle.cfb_journal.proofs.Clock.{joined}
use Rattle.cfb_journal.proofs.Files.{journal-length}
use Rattle.cfb_journal.proofs.stages.stage_at_once.Goals as goal

pub bring_body-requires-clause-end : goal.bring_body-requires-clause-end
bring_body-requires-clause-end g c tells =
    let v0 = g.D.Disk.view c.args.disk.now in
    let v1 = g.D.Disk.view c.put_head.new.disk in
    let v2 = g.D.Disk.view c.write_journal.new.self in
    ap length (gate_put c.args.len c.ranges.len.fits v0.seen.file (c.requires.len tells) v1 v2 (c.in_ok-put_head.ensures.file tells) (c.in_ok-put_head.ensures.headed tells)
    c.in_ok-write_journal.field-0 (c.in_ok-write_journal.ensures.honest tells))
    ∙ journal-length c.args.len _ 0 1 _

pub returns-in_err-write_journal-clause-any_moment :
    goal.returns-in_err-write_journal-clause-any_moment
returns-in_err-write_journal-clause-any_moment g c tells =
    let v0 = g.D.Disk.view c.args.disk.now in
    let v1 = g.D.Disk.view c.put_head.new.disk in
    let v2 = g.D.Disk.view c.write_journal.new.self in
    joined {a = v0} {b = v1} {c = v2} (Restores v0.seen.file) (c.in_ok-put_head.ensures.any_moment tells)
    (gate_put_run c.args.len c.ranges.len.fits v0.seen.file (c.requires.len tells) v1 v2 (c.in_ok-put_head.ensures.file tells) (c.in_ok-put_head.ensures.headed tells)
    c.write_journal.result (c.write_journal.ensures.honest tells))

pub returns-clause-any_moment : goal.returns-clause-any_moment
returns-clause-any_moment g c tells =
    let v0 = g.D.Disk.view c.args.disk.now in
    let v1 = g.D.Disk.view c.put_head.new.disk in
    let v2 = g.D.Disk.view c.write_journal.new.self in
    let v3 = g.D.Disk.view c.bring_body.new.disk in
    joined {a = v0} {b = v1} {c = v3} (Restores v0.seen.file) (c.in_ok-put_head.ensures.any_moment tells)
    (body_put_run c.args.len c.ranges.len.fits v0.seen.file (c.requires.len tells) v1 v2 (c.in_ok-put_head.ensures.file tells) (c.in_ok-put_head.ensures.headed tells)
    c.in_ok-write_journal.field-0 (c.in_ok-write_journal.ensures.honest tells) _ v3 c.bring_body.result (c.bring_body.ensures.put tells))

pub returns-clause-staged : goal.returns-clause-staged
returns-clause-staged g c tells =
    let v0 = g.D.Disk.view c.args.disk.now in
    let v1 = g.D.Disk.view c.put_head.new.disk in
    let v2 = g.D.Disk.view c.write_journal.new.self in
    let v3 = g.D.Disk.view c.bring_body.new.disk in
    staged_at_once c.args.len c.ranges.len.fits v0.seen.file (c.requires.len tells) v1 v2 (c.in_ok-put_head.ensures.file tells) (c.in_ok-put_head.ensures.headed tells)
    c.in_ok-write_journal.field-0 (c.in_ok-write_journal.ensures.honest tells) (body_bytes c.args.len c.args.stamp (frames_from 0 (contents c.args.blocks.now))) v3
    c.bring_body.result (c.bring_body.ensures.put tells) (c.bring_body.ensures.durable tells)
