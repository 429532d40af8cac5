use Rattle.std.proofs.Common.{◌≡◌, ◌<◌, ◌+◌, ◌++◌, [], ◌∷◌, length, reverse, sym, ◌∙◌, ap, subst, arith}
use Rattle.std.proofs.lemmas.List.{length-map, length-append, nil_from_length, reverse-reverse, reverse-append}
use Rattle.cfb_codecs.specs.EntryModel.{entry_of}
use Rattle.cfb_format.specs.Reading.{siblings}
use Rattle.cfb_codecs.specs.EntryModel.{entries_of}
use Rattle.cfb_outline.proofs.Walking.{push-reverse}
use Rattle.cfb_outline.proofs.Insides.{storage-is-inside}
use Rattle.cfb_outline.proofs.Filling.{Filling, filling-start, filling-stream, filling-storage, filling-inside, filling-room, filling-end}
use Rattle.cfb_outline.proofs.listing.contents.Goals as goal
use Rattle.cfb_outline.proofs.listing.contents.Goals.{In-Some}

pub child_link-first-requires : goal.child_link-first-requires
child_link-first-requires g c =
    let i = storage-is-inside c.requires.0 (entries_of c.args.entries.now) c.args.parent c.requires.1 in
    let l = i.inside in omega (arith, l, length-map c.args.entries.now entry_of)

pub push_siblings-requires-clause-listed : goal.push_siblings-requires-clause-listed
push_siblings-requires-clause-listed g c =
    let i = storage-is-inside c.requires.0 (entries_of c.args.entries.now) c.args.parent c.requires.1 in
    (c.requires.0, siblings i.outline, rw c.child_link-first.ensures i.has.children)

pub loop-number-init : goal.loop-number-init
loop-number-init g c =
    let i = storage-is-inside c.requires.0 (entries_of c.args.entries.now) c.args.parent c.requires.1 in
    let p = c.in_ok-push_siblings.ensures.ok c.requires.0 (siblings i.outline) (rw c.child_link-first.ensures i.has.children) in
    let line : reverse c.push_siblings.new.pending.items ≡ siblings i.outline = ap reverse (p ∙ ap (λ xs. xs ++ reverse (siblings i.outline)) c.new-pending.ensures.items) ∙ reverse-reverse (siblings i.outline) in
    record {
      filling = rw (line, c.new-order.ensures.items) (filling-start c.requires.0 (entries_of c.args.entries.now) c.args.parent i);
      emptied = c.in_ok-push_siblings.ensures.emptied;
    }

taken : (g : _) (c : In-Some g) → Filling (entries_of c.args.entries.now) c.args.parent (c.in-Some.number ∷ reverse c.pop.new.self.items) c.loop-number.order.items
taken g c =
    subst (λ st. Filling (entries_of c.args.entries.now) c.args.parent st c.loop-number.order.items)
    (ap reverse c.in-Some.ensures.items ∙ push-reverse c.pop.new.self.items c.in-Some.number) c.loop-number.invariant.filling

room : (g : _) (c : In-Some g) → length c.loop-number.order.items < length c.args.entries.now
room g c =
    let r = filling-room (entries_of c.args.entries.now) c.args.parent c.in-Some.number (reverse c.pop.new.self.items) c.loop-number.order.items (taken g c) in
    omega (arith, r, length-map c.args.entries.now entry_of)

pub is_storage-requires : goal.is_storage-requires
is_storage-requires g c =
    let l = filling-inside (entries_of c.args.entries.now) c.args.parent c.in-Some.number (reverse c.pop.new.self.items) c.loop-number.order.items (taken g (goal.at.is_storage-requires g c).In-Some) in
    omega (arith, l, length-map c.args.entries.now entry_of)

pub loop-number-smaller-then-not-is_storage : goal.loop-number-smaller-then-not-is_storage
loop-number-smaller-then-not-is_storage g c =
    let r = room g (goal.at.loop-number-smaller-then-not-is_storage g c).In-Some in
    let q : length c.push.new.self.items ≡ length c.loop-number.order.items + 1 = ap length c.in_ok-push.ensures.items ∙ length-append c.loop-number.order.items (c.in-Some.number ∷ []) in
    omega (arith, r, q)

pub loop-number-preserved-then-not-is_storage : goal.loop-number-preserved-then-not-is_storage
loop-number-preserved-then-not-is_storage g c = record {
  filling = rw c.in_ok-push.ensures.items
      (filling-stream (entries_of c.args.entries.now) c.args.parent c.in-Some.number (reverse c.pop.new.self.items) c.loop-number.order.items
      (taken g (goal.at.loop-number-preserved-then-not-is_storage g c).In-Some) (sym c.is_storage.ensures ∙ c.if-not-is_storage.true));
  emptied = c.loop-number.invariant.emptied;
}

pub push_siblings-requires-in-Some-clause-listed : goal.push_siblings-requires-in-Some-clause-listed
push_siblings-requires-in-Some-clause-listed g c =
    let n = filling-storage (entries_of c.args.entries.now) c.args.parent c.in-Some.number (reverse c.pop.new.self.items) c.loop-number.order.items
    (taken g (goal.at.push_siblings-requires-in-Some-clause-listed g c).In-Some) (sym c.is_storage.ensures ∙ c.if-not-is_storage.false) in
    (n.cases, n.list, rw c.child_link-child.ensures n.below)

pub loop-number-smaller : goal.loop-number-smaller
loop-number-smaller g c =
    let r = room g (goal.at.loop-number-smaller g c).In-Some in
    let q : length c.push.new.self.items ≡ length c.loop-number.order.items + 1 = ap length c.in_ok-push.ensures.items ∙ length-append c.loop-number.order.items (c.in-Some.number ∷ []) in
    omega (arith, r, q)

pub loop-number-preserved : goal.loop-number-preserved
loop-number-preserved g c =
    let n = filling-storage (entries_of c.args.entries.now) c.args.parent c.in-Some.number (reverse c.pop.new.self.items) c.loop-number.order.items
    (taken g (goal.at.loop-number-preserved g c).In-Some) (sym c.is_storage.ensures ∙ c.if-not-is_storage.false) in
    let p = c.in_ok-push_siblings-2.ensures.ok n.cases n.list (rw c.child_link-child.ensures n.below) in
    let line : reverse c.push_siblings-in-Some.new.pending.items ≡ n.list ++ reverse c.pop.new.self.items =
    ap reverse p ∙ reverse-append c.pop.new.self.items (reverse n.list) ∙ ap (λ xs. xs ++ reverse c.pop.new.self.items) (reverse-reverse n.list) in
    record {
      filling = rw (line, c.in_ok-push.ensures.items) n.filling;
      emptied = c.in_ok-push_siblings-2.ensures.emptied;
    }

pub returns-clause-ok : goal.returns-clause-ok
returns-clause-ok g c =
    let none : c.loop-number.pending.items ≡ [] = nil_from_length c.loop-number.pending.items (sym c.loop-number.pending.ok.0 ∙ c.in_default.ensures.cases.0) in
    filling-end (entries_of c.args.entries.now) c.args.parent c.loop-number.order.items
    (subst (λ st. Filling (entries_of c.args.entries.now) c.args.parent (reverse st) c.loop-number.order.items) none c.loop-number.invariant.filling)
