use Rattle.cfb_codecs.specs.EntryModel.{entries_of}
use Rattle.cfb_siblings.proofs.Held.{raw-in}
use Rattle.cfb_entries.proofs.Removal.{before-reached, inside-within, moved-parent, moved-within}
use Rattle.cfb_entries.proofs.changes.children_to_move.Goals as goal

pub freed_slot-moved-requires-clause-child : goal.freed_slot-moved-requires-clause-child
freed_slot-moved-requires-clause-child g c =
    let (cases, parent, list, r, h, m) = c.requires.child in
    (cases, parent, list, h, m)

pub returns-then-moved-number-clause-moved : goal.returns-then-moved-number-clause-moved
returns-then-moved-number-clause-moved g c = (
  c.freed_slot-moved.result,
  record {
    before = c.freed_slot-moved.ensures.before;
    inside = λ ne. absurd (ne c.if-moved-number.true);
  },
)

pub children_of-requires-clause-inside : goal.children_of-requires-clause-inside
children_of-requires-clause-inside g c =
    let before = c.freed_slot-moved.ensures.before (λ t. c.if-moved-number.false (c.freed_slot-moved.ensures.thin t)) in
    raw-in c.args.list.now c.freed_slot-moved.result (moved-within (entries_of c.args.list.now) c.args.number c.freed_slot-moved.result c.requires.child before)

pub children_of-requires-clause-listed : goal.children_of-requires-clause-listed
children_of-requires-clause-listed g c ne =
    let before = c.freed_slot-moved.ensures.before (λ t. c.if-moved-number.false (c.freed_slot-moved.ensures.thin t)) in
    moved-parent (entries_of c.args.list.now) c.args.number c.freed_slot-moved.result c.requires.child before ne

pub returns-in-Ok-clause-moved : goal.returns-in-Ok-clause-moved
returns-in-Ok-clause-moved g c = (
  c.freed_slot-moved.result,
  record {
    before = c.freed_slot-moved.ensures.before;
    inside = λ ne. c.in-Ok.ensures.ok;
  },
)

pub returns-in-Ok-clause-within : goal.returns-in-Ok-clause-within
returns-in-Ok-clause-within g c k m =
    let es = entries_of c.args.list.now in
    let before = c.freed_slot-moved.ensures.before (λ t. c.if-moved-number.false (c.freed_slot-moved.ensures.thin t)) in
    let (cases, o, is, r) = before-reached es c.args.number c.freed_slot-moved.result c.requires.child before in
    raw-in c.args.list.now k (inside-within cases es o is c.freed_slot-moved.result r c.in-Ok.inside.items c.in-Ok.ensures.ok k m)
