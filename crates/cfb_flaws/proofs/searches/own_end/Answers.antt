use Rattle.std.proofs.Common.{◌≡◌, inl, inr, ℕ, List, length, sym, ◌∙◌, arith}
use Rattle.cfb_soundness.proofs.MarkLemmas.{true_false}
use Rattle.cfb_flaws.proofs.Searching.{inside-of, not-end, own-more, own-start, own-stops, own-whole}
use Rattle.cfb_flaws.proofs.searches.own_end.Goals as goal

pub loop-step-init : goal.loop-step-init
loop-step-init c = λ list f. own-start c.args.table.now c.args.owners.now c.args.owner list c.args.start f

pub returns-then-not-is_inside : goal.returns-then-not-is_inside
returns-then-not-is_inside c = λ list f few.
    let l = c.loop-step in
    let s = l.invariant list f in
    own-stops c.args.table.now c.args.owners.now c.args.owner list l.number l._step
    (inl (inside-of c.is_inside.result c.args.table.now l.number s.rest c.is_inside.ensures c.if-not-is_inside.true s.follows)) s

pub returns-then-not-is_same : goal.returns-then-not-is_same
returns-then-not-is_same c = λ list f few.
    let l = c.loop-step in
    own-stops c.args.table.now c.args.owners.now c.args.owner list l.number l._step
    (inr (λ e. true_false c.is_same.result (c.is_same.ensures.1 (c.owner_at.ensures ∙ e)) c.if-not-is_same.true)) (l.invariant list f)

pub loop-step-preserved : goal.loop-step-preserved
loop-step-preserved c = λ list f.
    let l = c.loop-step in
    let inside = c.is_inside.ensures.0 c.if-not-is_inside.false in
    own-more c.args.table.now c.args.owners.now c.args.owner list l.number l._step (not-end l.number inside.1)
    (sym c.owner_at.ensures ∙ c.is_same.ensures.0 c.if-not-is_same.false) (l.invariant list f)

pub returns : goal.returns
returns c = λ list f few.
    let l = c.loop-step in
    own-whole c.args.table.now c.args.owners.now c.args.owner list l.number l._step (omega (arith, few, c.loop-step-test.false)) (l.invariant list f)
