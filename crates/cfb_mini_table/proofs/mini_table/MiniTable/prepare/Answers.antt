use Rattle.cfb_mini_table.proofs.StateLemmas.{mini-reserved}
use Rattle.cfb_mini_table.proofs.mini_table.MiniTable.prepare.Goals as goal

pub invariant_of-self-2 : goal.invariant_of-self-2
invariant_of-self-2 g c =
    let s = c.self.inside in
    rw (c.reserve.ensures.items, c.reserve-2.ensures.items)
    (mini-reserved s.limit s.minifat.items s.free.items s.unused _ _ c.self.invariant c.reserve-2.ensures.capacity)
