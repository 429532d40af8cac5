use Rattle.std.proofs.Common.{◌≡◌, ◌∙◌, ◌+◌, ap, sym, refl, length, length-take, ◌-◌, take, arith}
use Rattle.cfb_format.specs.Medium.{part}
use Rattle.cfb_journal.specs.Stamp.{summed_over}
use Rattle.cfb_journal.proofs.StampLemmas.{over_first, over_next, over_all}
use Rattle.cfb_journal.proofs.stamps.stamp_in.Goals as goal

pub loop-left-init : goal.loop-left-init
loop-left-init g c =
    record {
      inside = omega arith;
      sum = λ tells. over_first (g.F.ReadMedium.bytes c.args.medium.now) c.args.len c.step-step.result (c.requires.len tells) c.step-step.ensures.is;
      same = λ tells. refl;
    }

pub loop-left-preserved : goal.loop-left-preserved
loop-left-preserved g c =
    record {
      inside = omega (arith, c.min-at.ensures, c.if-at-len.true);
      sum = λ tells.
          let file = g.F.ReadMedium.bytes c.args.medium.now in
          let size : length (take c.min-size.result c.loop-left.bytes) ≡ c.min-size.result = omega (arith, length-take c.min-size.result c.loop-left.bytes, c.min-size.array_long, c.min-size.ensures) in
          let read = c.in_ok-read_exact_at.ensures.ok tells ∙ ap (λ f. part f c.loop-left.at (length (take c.min-size.result c.loop-left.bytes))) (c.loop-left.invariant.same tells) ∙ ap (part file c.loop-left.at) size in
          ap (λ k. summed_over (c.loop-left.left - 1) c.step-step.result (c.loop-left.at + k) file c.summed-sum.result) c.min-at.ensures
          ∙ over_next c.loop-left.left c.step-step.result c.loop-left.at c.args.len c.min-size.result file c.loop-left.sum c.summed-sum.result _ (omega (arith, c.loop-left-test.true)) (c.requires.len tells) c.if-at-len.true
          (omega (arith, c.min-size.ensures)) read c.summed-sum.ensures
          ∙ c.loop-left.invariant.sum tells;
      same = λ tells. c.in_ok-read_exact_at.ensures.same tells ∙ c.loop-left.invariant.same tells;
    }

pub returns-else-at-len-clause-stamp : goal.returns-else-at-len-clause-stamp
returns-else-at-len-clause-stamp g c tells =
    let file = g.F.ReadMedium.bytes c.args.medium.now in
    sym (over_all c.loop-left.left c.step-step.result c.loop-left.at c.args.len file c.loop-left.sum (c.requires.len tells) (λ some inside. omega (arith, c.if-at-len.false, inside)))
    ∙ c.loop-left.invariant.sum tells

pub returns-after-loop-left-clause-stamp : goal.returns-after-loop-left-clause-stamp
returns-after-loop-left-clause-stamp g c tells =
    let file = g.F.ReadMedium.bytes c.args.medium.now in
    sym (over_all c.loop-left.left c.step-step.result c.loop-left.at c.args.len file c.loop-left.sum (c.requires.len tells) (λ some inside. omega (arith, c.loop-left-test.false, some)))
    ∙ c.loop-left.invariant.sum tells
