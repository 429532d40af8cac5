use Rattle.cfb_journal.proofs.Behind.{puts_behind}
use Rattle.cfb_journal.proofs.pieces.put_behind.Goals as goal

pub returns : goal.returns
returns g c tells = puts_behind c.args.at c.args.from.now _ _ c.requires.behind c.write_journal.result (c.requires.end tells) (c.write_journal.ensures.honest tells)
