use Rattle.std.proofs.Common.{◌≡◌, ◌<◌, ◌++◌, [], ◌∷◌, length, reverse, sym, ◌∙◌, ap, subst, arith, append-nil}
use Rattle.std.specs.Prelude.{Some, None, map}
use Rattle.std.proofs.lemmas.List.{length-map, length-append, nil_from_length}
use Rattle.cfb_codecs.specs.EntryModel.{entry_of, entries_of}
use Rattle.cfb_format.specs.Reading.{siblings}
use Rattle.cfb_places.specs.Places.{placed_in}
use Rattle.cfb_places.proofs.Walking.{Walking, walking-start, walking-pass, walking-enter, walking-end, within, room, below, pushed, popped, root-within}
use Rattle.cfb_places.proofs.walk.places.Goals as goal
use Rattle.cfb_places.proofs.walk.places.Goals.{In-Some}

pub child_link-first-requires : goal.child_link-first-requires
child_link-first-requires g c =
    let l = root-within c.requires.0 (entries_of c.args.entries.now) c.requires.1 in
    omega (arith, l, length-map c.args.entries.now entry_of)

pub push_siblings-requires-clause-listed : goal.push_siblings-requires-clause-listed
push_siblings-requires-clause-listed g c =
    let (cases, (o, is)) = c.requires in
    (cases, siblings o, rw c.child_link-first.ensures is.children)

pub loop-next-init : goal.loop-next-init
loop-next-init g c = record {
  walking = rw c.new-list.ensures.items
      (walking-start (entries_of c.args.entries.now) (reverse c.push_siblings.new.pending.items)
      (λ cases o is.
      ap reverse (c.in_ok-push_siblings.ensures.ok cases (siblings o) (rw c.child_link-first.ensures is.children)
      ∙ ap (λ ws. ws ++ map (placed_in None) (reverse (siblings o))) c.new-pending.ensures.items)
      ∙ pushed None [] (siblings o) ∙ append-nil (map (placed_in None) (siblings o))));
  emptied = c.in_ok-push_siblings.ensures.emptied;
}

-- what waits, the next one first
taken : (g : _) (c : In-Some g) → Walking (entries_of c.args.entries.now) (c.in-Some.next ∷ reverse c.pop.new.self.items) c.loop-next.list.items
taken g c =
    subst (λ ws. Walking (entries_of c.args.entries.now) ws c.loop-next.list.items)
    (ap reverse c.in-Some.ensures.items ∙ popped c.pop.new.self.items c.in-Some.next) c.loop-next.invariant.walking

here : (g : _) (c : In-Some g) → c.in-Some.next.entry < length c.args.entries.now
here g c =
    let l = within (entries_of c.args.entries.now) c.requires.0 c.requires.1 c.in-Some.next (reverse c.pop.new.self.items) c.loop-next.list.items (taken g c) in
    omega (arith, l, length-map c.args.entries.now entry_of)

space : (g : _) (c : In-Some g) → length c.loop-next.list.items < length c.args.entries.now
space g c =
    let l = room (entries_of c.args.entries.now) c.requires.0 c.requires.1 c.in-Some.next (reverse c.pop.new.self.items) c.loop-next.list.items (taken g c) in
    omega (arith, l, length-map c.args.entries.now entry_of)

pub is_storage-requires : goal.is_storage-requires
is_storage-requires g c = here g (goal.at.is_storage-requires g c).In-Some

pub loop-next-smaller-then-not-is_storage : goal.loop-next-smaller-then-not-is_storage
loop-next-smaller-then-not-is_storage g c =
    let l = space g (goal.at.loop-next-smaller-then-not-is_storage g c).In-Some in
    let q = ap (length {A = _}) c.in_ok-push.ensures.items ∙ length-append c.loop-next.list.items (c.in-Some.next ∷ []) in
    omega (arith, l, q)

pub loop-next-preserved-then-not-is_storage : goal.loop-next-preserved-then-not-is_storage
loop-next-preserved-then-not-is_storage g c = record {
  walking = rw c.in_ok-push.ensures.items
      (walking-pass (entries_of c.args.entries.now) c.in-Some.next (reverse c.pop.new.self.items) c.loop-next.list.items
      (taken g (goal.at.loop-next-preserved-then-not-is_storage g c).In-Some) (sym c.is_storage.ensures ∙ c.if-not-is_storage.true));
  emptied = c.loop-next.invariant.emptied;
}

pub push_siblings-requires-in-Some-clause-listed : goal.push_siblings-requires-in-Some-clause-listed
push_siblings-requires-in-Some-clause-listed g c =
    let (there, hangs) =
    below (entries_of c.args.entries.now) c.requires.0 c.requires.1 c.in-Some.next (reverse c.pop.new.self.items) c.loop-next.list.items
    (taken g (goal.at.push_siblings-requires-in-Some-clause-listed g c).In-Some) (sym c.is_storage.ensures ∙ c.if-not-is_storage.false) in
    (c.requires.0, there, rw c.child_link-child.ensures hangs)

pub loop-next-smaller : goal.loop-next-smaller
loop-next-smaller g c =
    let l = space g (goal.at.loop-next-smaller g c).In-Some in
    let q = ap (length {A = _}) c.in_ok-push.ensures.items ∙ length-append c.loop-next.list.items (c.in-Some.next ∷ []) in
    omega (arith, l, q)

pub loop-next-preserved : goal.loop-next-preserved
loop-next-preserved g c = record {
  walking = rw c.in_ok-push.ensures.items
      (walking-enter (entries_of c.args.entries.now) c.in-Some.next (reverse c.pop.new.self.items) c.loop-next.list.items (reverse c.push_siblings-in-Some.new.pending.items)
      (taken g (goal.at.loop-next-preserved g c).In-Some) (sym c.is_storage.ensures ∙ c.if-not-is_storage.false)
      (λ cases there hangs.
      ap reverse (c.in_ok-push_siblings-2.ensures.ok cases there (rw c.child_link-child.ensures hangs))
      ∙ pushed (Some c.len-place.result) c.pop.new.self.items there
      ∙ ap (λ place. map (placed_in (Some place)) there ++ reverse c.pop.new.self.items) (c.len-place.ensures ∙ c.loop-next.list.ok.0)));
  emptied = c.in_ok-push_siblings-2.ensures.emptied;
}

pub returns-clause-ok : goal.returns-clause-ok
returns-clause-ok g c = λ cases o is.
    let none : c.loop-next.pending.items ≡ [] = nil_from_length c.loop-next.pending.items (sym c.loop-next.pending.ok.0 ∙ c.in_default.ensures.cases.0) in
    walking-end (entries_of c.args.entries.now) c.loop-next.list.items
    (subst (λ ws. Walking (entries_of c.args.entries.now) (reverse ws) c.loop-next.list.items) none c.loop-next.invariant.walking) cases o is
