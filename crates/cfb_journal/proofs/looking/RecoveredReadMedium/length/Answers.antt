use Rattle.std.proofs.Common.{sym, refl}
use Rattle.cfb_journal.proofs.LaidFrames.{looked-length}
use Rattle.cfb_journal.proofs.looking.RecoveredReadMedium.length.Goals as goal

pub returns-clause-honest : goal.returns-clause-honest
returns-clause-honest g c tells =
    let me = c.args.self.now in
    (sym (looked-length me.journal.items me.count me.len (g.F.ReadMedium.bytes me.file) (me.within tells) me.whole), refl)
