use Rattle.cfb_directory.proofs.LeastAbove.{least-kept}
use Rattle.cfb_directory.proofs.directory.Directory.is_placed.Goals as goal

pub are_placed-requires : goal.are_placed-requires
are_placed-requires g c = least-kept c.self.inside.sectors.items c.deref.result.now c.self.inside.above c.deref.ensures.value c.self.invariant
