use Rattle.std.proofs.Common.{◌≡◌, ◌+◌, [], ◌∷◌, ◌++◌, length, reverse, refl, sym, ◌∙◌, ap, subst, arith, true, false, set}
use Rattle.std.proofs.lemmas.List.{length-map, length-append, length-reverse, nil_from_length, append_assoc, reverse-reverse}
use Rattle.cfb_codecs.specs.EntryModel.{entries_of}
use Rattle.cfb_codecs.specs.EntryModel.{entry_of}
use Rattle.cfb_outline.proofs.Counts.{tally-reverse, mark-read, marks-from-counts}
use Rattle.cfb_outline.proofs.Walking.{Walk, walk-enter, walk-emit, walk-end, walk-out, walk-seen, walk-other, walk-inside, walk-room, push-reverse, walk-unpreceded, walk-last-inside, before-from, inside-map}
use Rattle.cfb_outline.proofs.outline.walk_siblings.Goals as goal
use Rattle.cfb_outline.proofs.outline.walk_siblings.Goals.{In-Some}

pub returns-then-current-entries-clause-refused : goal.returns-then-current-entries-clause-refused
returns-then-current-entries-clause-refused g c = rw c.malformed.ensures.1 (λ list f.
    let inv = c.loop-current.invariant in
    walk-out c.args.cases.now (entries_of c.args.entries.now) c.args.top c.args.seen.now.items c.loop-current.current (reverse c.loop-current.stack.items) inv.done c.loop-current.seen.items list
    inv.walk c.if-current.true (omega (arith, c.if-current-entries.true, length-map c.args.entries.now entry_of)) f)

pub returns-then-index-clause-refused : goal.returns-then-index-clause-refused
returns-then-index-clause-refused g c = rw c.malformed-then-index.ensures.1 (λ list f.
    let inv = c.loop-current.invariant in
    walk-seen c.args.cases.now (entries_of c.args.entries.now) c.args.top c.args.seen.now.items c.loop-current.current (reverse c.loop-current.stack.items) inv.done c.loop-current.seen.items list
    inv.walk c.if-current.true (mark-read c.loop-current.seen.items c.loop-current.current c.index.result.now true (omega (arith, inv.walk.size, c.if-current-entries.false, length-map c.args.entries.now entry_of)) c.index.ensures c.if-index.true) f)

entered : (g : _) (c : goal.After-right_link-current g) → Walk c.args.cases.now (entries_of c.args.entries.now) c.args.top c.args.seen.now.items c.right_link-current.result
    (reverse c.push.new.self.items) c.loop-current.invariant.done (set c.loop-current.seen.items c.loop-current.current true)
entered g c =
    let inv = c.loop-current.invariant in
    let es = entries_of c.args.entries.now in
    let st : reverse c.push.new.self.items ≡ c.loop-current.current ∷ reverse c.loop-current.stack.items =
    ap reverse c.in_ok-push.ensures.items ∙ push-reverse c.loop-current.stack.items c.loop-current.current in
    rw (st, c.right_link-current.ensures)
    (walk-enter c.args.cases.now es c.args.top c.args.seen.now.items c.loop-current.current (reverse c.loop-current.stack.items) inv.done c.loop-current.seen.items
    inv.walk c.if-current.true (omega (arith, c.if-current-entries.false, length-map c.args.entries.now entry_of)) (mark-read c.loop-current.seen.items c.loop-current.current c.index.result.now false (omega (arith, inv.walk.size, c.if-current-entries.false, length-map c.args.entries.now entry_of)) c.index.ensures c.if-index.false))

pub loop-current-smaller-then-current : goal.loop-current-smaller-then-current
loop-current-smaller-then-current g c =
    let inv = c.loop-current.invariant in
    let room = walk-room c.args.cases.now (entries_of c.args.entries.now) c.args.top c.args.seen.now.items c.right_link-current.result (reverse c.push.new.self.items) inv.done
    (set c.loop-current.seen.items c.loop-current.current true) (entered g c) in
    let p : length c.loop-current.pending.items ≡ length c.args.pending.now.items + length inv.done = ap length inv.found ∙ length-append c.args.pending.now.items inv.done in
    let q : length c.push.new.self.items ≡ length c.loop-current.stack.items + 1 =
    ap length c.in_ok-push.ensures.items ∙ length-append c.loop-current.stack.items (c.loop-current.current ∷ []) in
    omega (arith, room, p, q, length-reverse c.push.new.self.items, length-map c.args.entries.now entry_of)

pub loop-current-preserved-then-current : goal.loop-current-preserved-then-current
loop-current-preserved-then-current g c = record {
  done = c.loop-current.invariant.done;
  found = c.loop-current.invariant.found;
  walk = entered g c;
  last = c.loop-current.invariant.last;
}

pub returns-in_default-clause-ok : goal.returns-in_default-clause-ok
returns-in_default-clause-ok g c =
    let inv = c.loop-current.invariant in
    let none : c.loop-current.stack.items ≡ [] = nil_from_length c.loop-current.stack.items (sym c.loop-current.stack.ok.0 ∙ c.in_default.ensures.cases.0) in
    let w : Walk c.args.cases.now (entries_of c.args.entries.now) c.args.top c.args.seen.now.items c.loop-current.current [] inv.done c.loop-current.seen.items =
    subst (λ st. Walk c.args.cases.now (entries_of c.args.entries.now) c.args.top c.args.seen.now.items c.loop-current.current (reverse st) inv.done c.loop-current.seen.items) none inv.walk in (
      reverse inv.done,
      walk-end c.args.cases.now (entries_of c.args.entries.now) c.args.top c.args.seen.now.items c.loop-current.current inv.done c.loop-current.seen.items w c.if-current.false,
      inv.found ∙ ap (λ d. c.args.pending.now.items ++ d) (sym (reverse-reverse inv.done)),
      λ k. marks-from-counts c.args.seen.now.items c.loop-current.seen.items (reverse inv.done) k (omega (arith, w.marks k, tally-reverse k inv.done)),
    )

popped-walk : (g : _) (c : In-Some g) → Walk c.args.cases.now (entries_of c.args.entries.now) c.args.top c.args.seen.now.items c.loop-current.current
    (c.in-Some.number ∷ reverse c.pop.new.self.items) c.loop-current.invariant.done c.loop-current.seen.items
popped-walk g c =
    subst (λ st. Walk c.args.cases.now (entries_of c.args.entries.now) c.args.top c.args.seen.now.items c.loop-current.current st c.loop-current.invariant.done c.loop-current.seen.items)
    (ap reverse c.in-Some.ensures.items ∙ push-reverse c.pop.new.self.items c.in-Some.number) c.loop-current.invariant.walk

pub is_object-requires : goal.is_object-requires
is_object-requires g c =
    let l = walk-inside c.args.cases.now (entries_of c.args.entries.now) c.args.top c.args.seen.now.items c.loop-current.current c.in-Some.number (reverse c.pop.new.self.items)
    c.loop-current.invariant.done c.loop-current.seen.items (popped-walk g c) in
    omega (arith, l, length-map c.args.entries.now entry_of)

pub returns-then-not-is_object-clause-refused : goal.returns-then-not-is_object-clause-refused
returns-then-not-is_object-clause-refused g c = rw c.malformed-then-not-is_object.ensures.1 (λ list f.
    walk-other c.args.cases.now (entries_of c.args.entries.now) c.args.top c.args.seen.now.items c.loop-current.current c.in-Some.number (reverse c.pop.new.self.items)
    c.loop-current.invariant.done c.loop-current.seen.items list (popped-walk g (goal.at.returns-then-not-is_object-clause-refused g c).In-Some)
    c.if-current.false (sym c.is_object.ensures ∙ c.if-not-is_object.true) f)

pub precedes-requires-clause-last_in : goal.precedes-requires-clause-last_in
precedes-requires-clause-last_in g c =
    inside-map c.args.entries.now c.loop-current.last
    (walk-last-inside c.args.cases.now (entries_of c.args.entries.now) c.args.top c.args.seen.now.items c.loop-current.current c.loop-current.last (reverse c.loop-current.stack.items)
    c.loop-current.invariant.done c.loop-current.seen.items c.loop-current.invariant.walk c.loop-current.invariant.last)

pub returns-then-not-precedes-clause-refused : goal.returns-then-not-precedes-clause-refused
returns-then-not-precedes-clause-refused g c = λ list f.
    walk-unpreceded c.args.cases.now (entries_of c.args.entries.now) c.args.top c.args.seen.now.items c.loop-current.current c.in-Some.number c.loop-current.last (reverse c.pop.new.self.items)
    c.loop-current.invariant.done c.loop-current.seen.items list (popped-walk g (goal.at.returns-then-not-precedes-clause-refused g c).In-Some)
    c.if-current.false c.loop-current.invariant.last (sym c.precedes.ensures ∙ c.if-not-precedes.true) f

pub loop-current-smaller : goal.loop-current-smaller
loop-current-smaller g c =
    let inv = c.loop-current.invariant in
    let room = walk-room c.args.cases.now (entries_of c.args.entries.now) c.args.top c.args.seen.now.items c.loop-current.current (reverse c.loop-current.stack.items) inv.done c.loop-current.seen.items inv.walk in
    let p : length c.loop-current.pending.items ≡ length c.args.pending.now.items + length inv.done = ap length inv.found ∙ length-append c.args.pending.now.items inv.done in
    let q : length c.push-in-loop-current.new.self.items ≡ length c.loop-current.pending.items + 1 =
    ap length c.in_ok-push-2.ensures.items ∙ length-append c.loop-current.pending.items (c.in-Some.number ∷ []) in
    let r : length c.loop-current.stack.items ≡ length c.pop.new.self.items + 1 = ap length c.in-Some.ensures.items ∙ length-append c.pop.new.self.items (c.in-Some.number ∷ []) in
    omega (arith, room, p, q, r, length-reverse c.loop-current.stack.items, length-map c.args.entries.now entry_of)

pub loop-current-preserved : goal.loop-current-preserved
loop-current-preserved g c = record {
  done = c.loop-current.invariant.done ++ c.in-Some.number ∷ [];
  found = c.in_ok-push-2.ensures.items ∙ ap (λ p. p ++ c.in-Some.number ∷ []) c.loop-current.invariant.found ∙ append_assoc c.args.pending.now.items c.loop-current.invariant.done (c.in-Some.number ∷ []);
  walk = rw c.left_link-current.ensures
      (walk-emit c.args.cases.now (entries_of c.args.entries.now) c.args.top c.args.seen.now.items c.loop-current.current c.in-Some.number (reverse c.pop.new.self.items)
      c.loop-current.invariant.done c.loop-current.seen.items c.loop-current.last (popped-walk g (goal.at.loop-current-preserved g c).In-Some) c.if-current.false
      (sym c.is_object.ensures ∙ c.if-not-is_object.false) c.loop-current.invariant.last
      (before-from c.args.cases.now (entries_of c.args.entries.now) c.in-Some.number c.loop-current.last (sym c.precedes.ensures ∙ c.if-not-precedes.false)));
  last = (c.loop-current.invariant.done, refl);
}
