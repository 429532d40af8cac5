use Rattle.std.proofs.Common.{[], ◌∷◌, ◌++◌, inl, inr, arith, length-append}
use Rattle.cfb_tables.specs.Refused.{NoLast}
use Rattle.cfb_tables.proofs.WalkLemmas.{walked-long, no_members}
use Rattle.cfb_tables.proofs.RefusedLemmas.{refused-invalid}
use Rattle.cfb_tables.proofs.walk.last_of.Goals as goal
use Rattle.cfb_tables.proofs.walk.last_of.Goals.{then-last-gt-MAX_REGULAR_SECTOR-via-then-last-gt-MAX_REGULAR_SECTOR, then-last-gt-MAX_REGULAR_SECTOR-via-else-last-gt-MAX_REGULAR_SECTOR+then-last-table}
use Rattle.cfb_format.proofs.Walks.{walked-step, walked-end, walked-past}

pub returns-then-start-eq-END_OF_CHAIN-clause-err : goal.returns-then-start-eq-END_OF_CHAIN-clause-err
returns-then-start-eq-END_OF_CHAIN-clause-err c =
    let none : NoLast c.args.table.now c.args.start = λ list chain some. some (no_members c.args.table.now c.args.start list c.if-start-eq-END_OF_CHAIN.true chain) in
    refused-invalid (NoLast c.args.table.now c.args.start) ⊥ ⊥ c.no_chain.result c.no_chain.ensures none

pub returns-then-last-gt-MAX_REGULAR_SECTOR-clause-err : goal.returns-then-last-gt-MAX_REGULAR_SECTOR-clause-err
returns-then-last-gt-MAX_REGULAR_SECTOR-clause-err c =
    let table = c.args.table.now in
    let l = c.loop-turn in
    let w = l.invariant.walked in
    let none : NoLast table c.args.start = λ list chain some. elim c.then-last-gt-MAX_REGULAR_SECTOR.branch [
      | then-last-gt-MAX_REGULAR_SECTOR-via-then-last-gt-MAX_REGULAR_SECTOR b ↦
          walked-past table c.args.start w.0 l.last l.invariant.goes_on (inl (omega arith)) w.2 list chain
      | then-last-gt-MAX_REGULAR_SECTOR-via-else-last-gt-MAX_REGULAR_SECTOR+then-last-table b ↦
          walked-past table c.args.start w.0 l.last l.invariant.goes_on (inr (omega arith)) w.2 list chain
    ] in
    refused-invalid (NoLast table c.args.start) ⊥ ⊥ c.no_chain-then-last-gt-MAX_REGULAR_SECTOR.result c.no_chain-then-last-gt-MAX_REGULAR_SECTOR.ensures none

pub returns-then-next-clause-ok : goal.returns-then-next-clause-ok
returns-then-next-clause-ok c =
    let table = c.args.table.now in
    let l = c.loop-turn in
    let w = l.invariant.walked in
    let step = walked-step table c.args.start w.0 l.last l.invariant.goes_on (omega arith) (omega arith) w.2 in
    (w.0, walked-end table c.args.start (w.0 ++ l.last ∷ []) (rw c.if-next.true at step))

pub loop-turn-preserved : goal.loop-turn-preserved
loop-turn-preserved c =
    let table = c.args.table.now in
    let l = c.loop-turn in
    let w = l.invariant.walked in
    record {
      goes_on = c.if-next.false;
      walked = (w.0 ++ l.last ∷ [], omega (arith, w.1, length-append w.0 (l.last ∷ [])), walked-step table c.args.start w.0 l.last l.invariant.goes_on (omega arith) (omega arith) w.2);
    }

pub returns-clause-err : goal.returns-clause-err
returns-clause-err c =
    let table = c.args.table.now in
    let l = c.loop-turn in
    let w = l.invariant.walked in
    let none : NoLast table c.args.start = λ list chain some. walked-long table c.args.start w.0 l.last l.invariant.goes_on (omega (arith, w.1)) w.2 list chain in
    refused-invalid (NoLast table c.args.start) ⊥ ⊥ c.no_chain-2.result c.no_chain-2.ensures none
