use Rattle.std.proofs.Common.{◌≡◌, ℕ, List, [], ◌∷◌, length, refl, sym, ◌∙◌, ap, arith}
use Rattle.std.proofs.lemmas.List.{length-append}
use Rattle.cfb_format.proofs.Walks.{le-regular}
use Rattle.cfb_flaws.proofs.Paths.{path-push}
use Rattle.cfb_flaws.proofs.Searching.{ended, none-longer, none-outside, not-end}
use Rattle.cfb_flaws.proofs.searches.short_chain.Goals as goal

pub returns-then-number-clause-chain : goal.returns-then-number-clause-chain
returns-then-number-clause-chain g c = let l = c.loop-step in ended c.args.table.now c.args.start l.list.items l.number l.invariant.is_path c.if-number.true

pub returns-then-not-is_inside-clause-none : goal.returns-then-not-is_inside-clause-none
returns-then-not-is_inside-clause-none g c = λ xs f short.
    let l = c.loop-step in
    none-outside c.is_inside.result c.args.table.now c.args.start l.list.items l.number l.invariant.is_path c.is_inside.ensures c.if-not-is_inside.true c.if-number.false xs f

pub returns-then-number-2-clause-chain : goal.returns-then-number-2-clause-chain
returns-then-number-2-clause-chain g c = let l = c.loop-step in ended c.args.table.now c.args.start l.list.items l.number l.invariant.is_path c.if-number-2.true

pub returns-clause-none : goal.returns-clause-none
returns-clause-none g c = λ xs f short.
    let l = c.loop-step in
    let count = l.invariant.count in
    none-longer c.args.table.now c.args.start l.list.items l.number c.args.most l.invariant.is_path (omega (arith, count, c.loop-step-test.false)) c.if-number-2.false xs f short

pub loop-step-preserved : goal.loop-step-preserved
loop-step-preserved g c =
    let l = c.loop-step in
    let inside = c.is_inside.ensures.0 c.if-not-is_inside.false in
    let count = l.invariant.count in
    let n = length-append l.list.items (l.number ∷ []) in
    rw c.in_ok-push.ensures.items record {
      is_path = path-push c.args.table.now c.args.start l.list.items l.number l.invariant.is_path c.if-number.false inside.0 (le-regular l.number inside.1);
      count = omega (arith, n, count);
    }
