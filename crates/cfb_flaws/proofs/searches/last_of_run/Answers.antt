use Rattle.std.proofs.Common.{ℕ, List, arith}
use Rattle.cfb_flaws.proofs.Searching.{run-more, run-start}
use Rattle.cfb_flaws.proofs.searches.last_of_run.Goals as goal

pub loop-step-init : goal.loop-step-init
loop-step-init c = record { low = omega arith; run = λ list. run-start c.args.table.now c.args.owners.now list c.args.first }

pub loop-step-preserved : goal.loop-step-preserved
loop-step-preserved c =
    let l = c.loop-step in
    let low = l.invariant.low in
    let g = c.goes_on.ensures c.if-not-goes_on.false in
    record {
      low = omega (arith, low);
      run = λ list. run-more c.args.table.now c.args.owners.now list c.args.first l.last g low (l.invariant.run list);
    }

pub returns-then-not-goes_on-clause-run : goal.returns-then-not-goes_on-clause-run
returns-then-not-goes_on-clause-run c = c.loop-step.invariant.run

pub returns-clause-run : goal.returns-clause-run
returns-clause-run c = c.loop-step.invariant.run
