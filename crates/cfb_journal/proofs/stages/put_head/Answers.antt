use Rattle.std.proofs.Common.{◌∙◌, ap, subst, take, OnOk}
use Rattle.std.proofs.Math.Seq.{take-length}
use Rattle.cfb_journal.specs.Disk.{Image}
use Rattle.cfb_journal.specs.Journal.{head_of, Restores}
use Rattle.cfb_journal.specs.Stamp.{stamp_of}
use Rattle.cfb_journal.specs.States.{Meanwhile, PutsThrough, IsOn}
use Rattle.cfb_journal.proofs.Clock.{joined}
use Rattle.cfb_journal.proofs.Beginning.{quiet_still, quiet_run, first_run, has_head}
use Rattle.cfb_journal.proofs.stages.put_head.Goals as goal

pub returns-clause-headed : goal.returns-clause-headed
returns-clause-headed g c tells =
    let v0 = g.D.Disk.view c.args.disk.now in
    let v1 = g.D.Disk.view c.stamp_on.new.disk in
    let v2 = g.D.Disk.view c.put_through.new.disk in
    let looks = c.in_ok-stamp.ensures.looks tells in
    let stamp_is = c.in_ok-stamp.ensures.stamp tells ∙ ap stamp_of (ap (λ n. take n v0.seen.file) (c.requires.len tells) ∙ take-length v0.seen.file) in
    let put = subst (λ h. PutsThrough 0 h c.put_through.result v1 v2) c.head.ensures (c.put_through.ensures tells) in
    subst (λ s. OnOk c.put_through.result (IsOn (head_of c.args.len s) v2)) stamp_is
    (has_head c.args.len c.in_ok-stamp.stamp c.put_through.result v1 v2 (quiet_still v0 v1 (c.requires.quiet tells) looks) put)

pub returns-clause-any_moment : goal.returns-clause-any_moment
returns-clause-any_moment g c tells =
    let v0 = g.D.Disk.view c.args.disk.now in
    let v1 = g.D.Disk.view c.stamp_on.new.disk in
    let v2 = g.D.Disk.view c.put_through.new.disk in
    let looks = c.in_ok-stamp.ensures.looks tells in
    let same = ap (λ (i : Image). i.file) looks.seen in
    let put = subst (λ h. PutsThrough 0 h c.put_through.result v1 v2) c.head.ensures (c.put_through.ensures tells) in
    joined {a = v0} {b = v1} {c = v2} (Restores v0.seen.file) (quiet_run v0 v1 (c.requires.quiet tells) looks)
    (subst (λ f. Meanwhile v1 v2 (Restores f)) same (first_run c.args.len c.in_ok-stamp.stamp c.put_through.result v1 v2 (quiet_still v0 v1 (c.requires.quiet tells) looks) put))
