use Rattle.cfb_alloc.proofs.Spared.{spares_refl}
use Rattle.cfb_directory.proofs.inserting.make_room.Goals as goal

pub returns-then-not-is_full-clause-spares : goal.returns-then-not-is_full-clause-spares
returns-then-not-is_full-clause-spares g c told = spares_refl _ c.args.allocator.now
