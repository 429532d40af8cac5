use Rattle.std.proofs.Common.{◌≡◌, ℕ, List, length}
use Rattle.cfb_flaws.proofs.Searching.{comes-next}
use Rattle.cfb_flaws.proofs.searches.break_of.Goals as goal

pub loop-step-preserved : goal.loop-step-preserved
loop-step-preserved c =
    let l = c.loop-step in
    let inside = c.is_inside-in-loop-step.ensures.0 c.if-not-is_inside-2.false in
    record {
      comes = comes-next c.args.table.now c.args.start l.number l.invariant.comes l.invariant.below l.invariant.regular;
      below = inside.0;
      regular = inside.1;
    }
