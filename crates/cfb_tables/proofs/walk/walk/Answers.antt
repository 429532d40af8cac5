use Rattle.std.proofs.Common.{inl, inr, arith}
use Rattle.cfb_tables.specs.Changes.{NoChain}
use Rattle.cfb_tables.proofs.WalkLemmas.{walked-long}
use Rattle.cfb_tables.proofs.RefusedLemmas.{refused-invalid}
use Rattle.cfb_tables.proofs.walk.walk.Goals as goal
use Rattle.cfb_tables.proofs.walk.walk.Goals.{then-sector-gt-MAX_REGULAR_SECTOR-via-then-sector-gt-MAX_REGULAR_SECTOR, then-sector-gt-MAX_REGULAR_SECTOR-via-else-sector-gt-MAX_REGULAR_SECTOR+then-sector-table, then-sector-gt-MAX_REGULAR_SECTOR-via-else-sector-gt-MAX_REGULAR_SECTOR+else-sector-table+then-len-table}
use Rattle.cfb_format.proofs.Walks.{walked-step, walked-end, walked-past}

pub returns-then-sector-gt-MAX_REGULAR_SECTOR-clause-err : goal.returns-then-sector-gt-MAX_REGULAR_SECTOR-clause-err
returns-then-sector-gt-MAX_REGULAR_SECTOR-clause-err g c =
    let table = c.args.table.now in
    let l = c.loop-sector in
    let on = c.loop-sector-test.true in
    let none : NoChain table c.args.start = elim c.then-sector-gt-MAX_REGULAR_SECTOR.branch [
      | then-sector-gt-MAX_REGULAR_SECTOR-via-then-sector-gt-MAX_REGULAR_SECTOR w ↦
          walked-past table c.args.start l.list.items l.sector on (inl (omega arith)) l.invariant.walked
      | then-sector-gt-MAX_REGULAR_SECTOR-via-else-sector-gt-MAX_REGULAR_SECTOR+then-sector-table w ↦
          walked-past table c.args.start l.list.items l.sector on (inr (omega arith)) l.invariant.walked
      | then-sector-gt-MAX_REGULAR_SECTOR-via-else-sector-gt-MAX_REGULAR_SECTOR+else-sector-table+then-len-table w ↦
          walked-long table c.args.start l.list.items l.sector on (omega (arith, l.list.ok.0)) l.invariant.walked
    ] in
    refused-invalid (NoChain table c.args.start) Unit ⊥ c.no_chain.result c.no_chain.ensures none

pub loop-sector-preserved : goal.loop-sector-preserved
loop-sector-preserved g c =
    let l = c.loop-sector in
    let step = walked-step c.args.table.now c.args.start l.list.items l.sector c.loop-sector-test.true (omega arith) (omega arith) l.invariant.walked in
    record {
      short = omega (arith, c.in_ok-push.ensures.len);
      walked = rw c.in_ok-push.ensures.items step;
    }

pub returns-clause-ok : goal.returns-clause-ok
returns-clause-ok g c =
    let l = c.loop-sector in
    walked-end c.args.table.now c.args.start l.list.items (rw c.loop-sector-test.false at l.invariant.walked)
