use Rattle.std.proofs.Common.{arith, ◌∙◌, ◌++◌, ℕ, List, length, ap, sym}
use Rattle.cfb_sectors.proofs.FreshLemmas.{copies_fit, copies_more}
use Rattle.cfb_sectors.proofs.sector.put_copies.Goals as goal

pub put-end-requires : goal.put-end-requires
put-end-requires c =
    let fits = copies_fit c.loop-done.done c.args.count (length c.args.piece.now) (length c.args.into.now) c.loop-done-test.true c.requires in
    omega (arith, c.loop-done.invariant.end, c.loop-done.auto.into, fits)

pub loop-done-preserved : goal.loop-done-preserved
loop-done-preserved c =
    record {
      end = grind arith;
      put =
          c.put-end.ensures.before ∙ ap (λ (xs : List ℕ). xs ++ c.args.piece.now) c.loop-done.invariant.put ∙ sym (copies_more c.loop-done.done c.args.piece.now);
    }
