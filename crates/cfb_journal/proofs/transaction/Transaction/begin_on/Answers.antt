use Rattle.std.proofs.Common.{rules}
use Rattle.cfb_journal.specs.Disk.{Image}
use Rattle.cfb_journal.proofs.Since.{not_begun}
use Rattle.cfb_journal.proofs.transaction.Transaction.begin_on.Goals as goal

pub returns-in-Err-clause-not_begun : goal.returns-in-Err-clause-not_begun
returns-in-Err-clause-not_begun g c tells =
    let v = g.D.Disk.view c.args.disk in
    let only : (i : Image) → v.left_since v.moment i → v.may_leave i = search rules in
    not_begun _ _ _ _ (c.requires.opened tells) only (c.in-Err.ensures.not_opened tells)
