use Rattle.std.proofs.Common.{inl, inr, sym, ◌∙◌, ap}
use Rattle.cfb_codecs.specs.EntryModel.{entries_of}
use Rattle.cfb_siblings.proofs.Freed.{child-bound, sunk-before, sunk-bound, sunk-left, sunk-more, sunk-smaller, sunk-start}
use Rattle.cfb_siblings.proofs.Held.{raw-in}
use Rattle.cfb_siblings.proofs.remove.freed_slot.Goals as goal

pub links-left-requires : goal.links-left-requires
links-left-requires g c = raw-in c.args.entries.now c.args.n (child-bound (entries_of c.args.entries.now) c.requires.few c.args.n c.requires.child)

pub right_link-next-requires : goal.right_link-next-requires
right_link-next-requires g c =
    let e = ap (λ x. x.0) c.links-left.ensures in
    raw-in c.args.entries.now c.links-left.result.0 (rw e (sunk-left (entries_of c.args.entries.now) c.requires.few c.args.n c.requires.child (rw e at c.if-left.false)))

pub loop-next-init : goal.loop-next-init
loop-next-init g c =
    let e = ap (λ x. x.0) c.links-left.ensures in
    record {
      linked = c.right_link-next.ensures;
      sunk = rw e (sunk-start (entries_of c.args.entries.now) c.requires.few c.args.n (rw e at c.if-left.false));
    }

pub right_link-next-requires-in-loop-next : goal.right_link-next-requires-in-loop-next
right_link-next-requires-in-loop-next g c =
    let held = c.loop-next.invariant in
    raw-in c.args.entries.now c.loop-next.next (rw held.linked (sunk-bound (entries_of c.args.entries.now) c.requires.few c.args.n c.loop-next.m c.requires.child (rw held.linked at c.loop-next-test.true) held.sunk))

pub loop-next-smaller : goal.loop-next-smaller
loop-next-smaller g c =
    let held = c.loop-next.invariant in
    rw (c.right_link-next-in-loop-next.ensures, held.linked) (sunk-smaller (entries_of c.args.entries.now) c.requires.few c.args.n c.loop-next.m c.requires.child (rw held.linked at c.loop-next-test.true) held.sunk)

pub loop-next-preserved : goal.loop-next-preserved
loop-next-preserved g c =
    let held = c.loop-next.invariant in
    record {
      linked = c.right_link-next-in-loop-next.ensures;
      sunk = rw held.linked (sunk-more (entries_of c.args.entries.now) c.requires.few c.args.n c.loop-next.m (rw held.linked at c.loop-next-test.true) held.sunk);
    }

pub returns-then-left-clause-before : goal.returns-then-left-clause-before
returns-then-left-clause-before g c thick = absurd (thick (inl (sym (ap (λ x. x.0) c.links-left.ensures) ∙ c.if-left.true)))

pub returns-then-right-clause-before : goal.returns-then-right-clause-before
returns-then-right-clause-before g c thick = absurd (thick (inr (sym (ap (λ x. x.1) c.links-left.ensures) ∙ c.if-right.true)))

pub returns-clause-thin : goal.returns-clause-thin
returns-clause-thin g c thin = elim thin [
  | inl e ↦ absurd (c.if-left.false (ap (λ x. x.0) c.links-left.ensures ∙ e))
  | inr e ↦ absurd (c.if-right.false (ap (λ x. x.1) c.links-left.ensures ∙ e))
]

pub returns-clause-before : goal.returns-clause-before
returns-clause-before g c thick cases parent xs ys h =
    let held = c.loop-next.invariant in
    sunk-before (entries_of c.args.entries.now) c.requires.few c.args.n c.loop-next.m (sym held.linked ∙ c.loop-next-test.false) held.sunk cases parent xs ys h
