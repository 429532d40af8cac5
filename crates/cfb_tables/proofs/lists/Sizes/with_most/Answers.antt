use Rattle.std.proofs.Common.{◌-◌, sym, arith}
use Rattle.cfb_tables.proofs.SizeLemmas.{after-none}
use Rattle.cfb_tables.proofs.RoomLemmas.{after-turn}
use Rattle.cfb_tables.proofs.lists.Sizes.with_most.Goals as goal

pub loop-left-init : goal.loop-left-init
loop-left-init c = record {
  are = c.requires.are;
  few = omega arith;
  limited = λ lt. absurd (omega (arith, lt));
  is = sym (after-none c.args.version (c.args.more - c.args.more) c.args.self (omega arith));
}

pub loop-left-preserved : goal.loop-left-preserved
loop-left-preserved c =
    let l = c.loop-left in
    let s = c.in-Some in
    let fewer = s.ensures.fewer in
    let few = l.invariant.few in
    record {
      are = s.ensures.are;
      few = omega (arith, fewer, few);
      limited = λ lt. s.ensures.limited;
      is = after-turn c.args.version c.args.more l.left s.rest l.sizes s.next c.args.self few (omega (arith, fewer)) l.invariant.is s.ensures.sizes;
    }
