use Rattle.std.proofs.Common.{◌∙◌, sym}
use Rattle.cfb_journal.proofs.Files.{foreign_change}
use Rattle.cfb_journal.proofs.Ending.{ends_foreign}
use Rattle.cfb_journal.proofs.recovery.end_change.Goals as goal

pub returns-then-branch-stamp_was : goal.returns-then-branch-stamp_was
returns-then-branch-stamp_was g c tells =
    let v0 = g.D.Disk.view c.args.disk.now in
    ends_foreign c.args.base v0 (g.D.Disk.view c.stamp_on.new.disk)
    (foreign_change v0.seen c.args.base (c.requires.change tells) (c.requires.commit tells) (sym (c.requires.base tells)) (c.requires.within tells)
    (λ e. c.if-branch-stamp_was.true (c.in_ok-stamp_on.ensures.stamp tells ∙ e ∙ sym (c.requires.stamp tells))))
    (c.in_ok-stamp_on.ensures.looks tells)
