use Rattle.std.proofs.Common.{ℕ, List, ◌≡◌, ◌<◌, ◌+◌, ◌++◌, [], ◌∷◌, length, reverse, sym, ◌∙◌, ap, subst, arith, append-nil}
use Rattle.std.specs.Prelude.{Some, None, chars, map}
use Rattle.std.proofs.lemmas.List.{length-map, length-append, nil_from_length}
use Rattle.cfb_codecs.specs.EntryModel.{entry_of, entries_of}
use Rattle.cfb_format.specs.Reading.{siblings}
use Rattle.cfb_outline.proofs.Insides.{storage-is-inside}
use Rattle.cfb_format.specs.Path.{child_path}
use Rattle.cfb_format.specs.Siblings.{entry_at}
use Rattle.cfb_listing.specs.Told.{entry_info}
use Rattle.cfb_listing.specs.Waiting.{waits_in, path_at}
use Rattle.cfb_listing.proofs.Leaving.{Listing, listing-start, listing-pass, listing-below, listing-enter, listing-end, within, parent-in, room, pushed, popped}
use Rattle.cfb_listing.proofs.listing.push_inside.Goals as goal
use Rattle.cfb_listing.proofs.listing.push_inside.Goals.{In-Some, In_ok-push}

pub child_link-first-requires : goal.child_link-first-requires
child_link-first-requires g c =
    let i = storage-is-inside c.requires.0 (entries_of c.args.entries.now) c.args.number c.requires.1 in
    let l = i.inside in omega (arith, l, length-map c.args.entries.now entry_of)

pub push_siblings-requires-clause-listed : goal.push_siblings-requires-clause-listed
push_siblings-requires-clause-listed g c =
    let i = storage-is-inside c.requires.0 (entries_of c.args.entries.now) c.args.number c.requires.1 in
    (c.requires.0, siblings i.outline, rw c.child_link-first.ensures i.has.children)

pub loop-next-init : goal.loop-next-init
loop-next-init g c = record {
  listing = listing-start c.args.order (entries_of c.args.entries.now) (chars c.args.path.now) c.args.number c.args.list.now.items (reverse c.push_siblings.new.pending.items)
      (λ cases inside has.
      ap reverse (c.in_ok-push_siblings.ensures.ok cases (siblings inside) (rw c.child_link-first.ensures has.children)
      ∙ ap (λ ws. ws ++ map (waits_in None) (reverse (siblings inside))) c.new-pending.ensures.items)
      ∙ pushed None [] (siblings inside) ∙ append-nil (map (waits_in None) (siblings inside)));
  emptied = c.in_ok-push_siblings.ensures.emptied;
}

-- what waits, the next one first
taken : (g : _) (c : In-Some g)
    → Listing c.args.order (entries_of c.args.entries.now) (chars c.args.path.now) c.args.number c.args.list.now.items (c.in-Some.next ∷ reverse c.pop.new.self.items) c.loop-next.list.items
taken g c =
    subst (λ ws. Listing c.args.order (entries_of c.args.entries.now) (chars c.args.path.now) c.args.number c.args.list.now.items ws c.loop-next.list.items)
    (ap reverse c.in-Some.ensures.items ∙ popped c.pop.new.self.items c.in-Some.next) c.loop-next.invariant.listing

here : (g : _) (c : In-Some g) → c.in-Some.next.number < length c.args.entries.now
here g c =
    let l = within c.args.order (entries_of c.args.entries.now) (chars c.args.path.now) c.args.number c.args.list.now.items c.requires.0 c.requires.1
    c.in-Some.next (reverse c.pop.new.self.items) c.loop-next.list.items (taken g c) in
    omega (arith, l, length-map c.args.entries.now entry_of)

space : (g : _) (c : In-Some g) → length c.loop-next.list.items < length c.args.list.now.items + length c.args.entries.now
space g c =
    let l = room c.args.order (entries_of c.args.entries.now) (chars c.args.path.now) c.args.number c.args.list.now.items c.requires.0 c.requires.1
    c.in-Some.next (reverse c.pop.new.self.items) c.loop-next.list.items (taken g c) in
    omega (arith, l, length-map c.args.entries.now entry_of)

told : (g : _) (c : In_ok-push g)
    → c.in_ok-told.told ≡ entry_info (child_path (path_at (chars c.args.path.now) c.loop-next.list.items c.in-Some.next.parent) (entry_at (entries_of c.args.entries.now) c.in-Some.next.number).name)
    (entry_at (entries_of c.args.entries.now) c.in-Some.next.number)
told g c =
    c.in_ok-told.ensures.ok
    ∙ ap (λ (path : List ℕ). entry_info (child_path path (entry_at (entries_of c.args.entries.now) c.in-Some.next.number).name) (entry_at (entries_of c.args.entries.now) c.in-Some.next.number))
    (c.parent_path-parent.ensures ∙ ap (λ list. path_at (chars c.args.path.now) list c.in-Some.next.parent) c.as_slice.ensures.value)

pub parent_path-parent-requires : goal.parent_path-parent-requires
parent_path-parent-requires g c =
    rw c.as_slice.ensures.value
    (parent-in c.args.order (entries_of c.args.entries.now) (chars c.args.path.now) c.args.number c.args.list.now.items c.requires.0 c.requires.1
    c.in-Some.next (reverse c.pop.new.self.items) c.loop-next.list.items (taken g (goal.at.parent_path-parent-requires g c).In-Some))

pub entry_below-requires : goal.entry_below-requires
entry_below-requires g c = here g (goal.at.entry_below-requires g c).In-Some

pub goes_inside-requires : goal.goes_inside-requires
goes_inside-requires g c = here g (goal.at.goes_inside-requires g c).In-Some

pub loop-next-smaller-then-not-goes_inside : goal.loop-next-smaller-then-not-goes_inside
loop-next-smaller-then-not-goes_inside g c =
    let l = space g (goal.at.loop-next-smaller-then-not-goes_inside g c).In-Some in
    let q = ap (length {A = _}) c.in_ok-push.ensures.items ∙ length-append c.loop-next.list.items (c.in_ok-told.told ∷ []) in
    omega (arith, l, q)

pub loop-next-preserved-then-not-goes_inside : goal.loop-next-preserved-then-not-goes_inside
loop-next-preserved-then-not-goes_inside g c = record {
  listing = rw c.in_ok-push.ensures.items
      (listing-pass c.args.order (entries_of c.args.entries.now) (chars c.args.path.now) c.args.number c.args.list.now.items c.in-Some.next (reverse c.pop.new.self.items)
      c.loop-next.list.items c.in_ok-told.told (taken g (goal.at.loop-next-preserved-then-not-goes_inside g c).In-Some)
      (sym c.goes_inside.ensures ∙ c.if-not-goes_inside.true) (told g (goal.at.loop-next-preserved-then-not-goes_inside g c).In_ok-push));
  emptied = c.loop-next.invariant.emptied;
}

pub child_link-child-requires : goal.child_link-child-requires
child_link-child-requires g c = here g (goal.at.child_link-child-requires g c).In-Some

pub push_siblings-requires-in-Some-clause-listed : goal.push_siblings-requires-in-Some-clause-listed
push_siblings-requires-in-Some-clause-listed g c =
    let (there, below) =
    listing-below c.args.order (entries_of c.args.entries.now) (chars c.args.path.now) c.args.number c.args.list.now.items c.requires.0 c.requires.1
    c.in-Some.next (reverse c.pop.new.self.items) c.loop-next.list.items (taken g (goal.at.push_siblings-requires-in-Some-clause-listed g c).In-Some)
    (sym c.goes_inside.ensures ∙ c.if-not-goes_inside.false) in
    (c.requires.0, there, rw c.child_link-child.ensures below)

pub push_siblings-requires-in-Some-clause-empty : goal.push_siblings-requires-in-Some-clause-empty
push_siblings-requires-in-Some-clause-empty g c = c.loop-next.invariant.emptied

pub loop-next-smaller : goal.loop-next-smaller
loop-next-smaller g c =
    let l = space g (goal.at.loop-next-smaller g c).In-Some in
    let q = ap (length {A = _}) c.in_ok-push.ensures.items ∙ length-append c.loop-next.list.items (c.in_ok-told.told ∷ []) in
    omega (arith, l, q)

pub loop-next-preserved : goal.loop-next-preserved
loop-next-preserved g c = record {
  listing = rw c.in_ok-push.ensures.items
      (listing-enter c.args.order (entries_of c.args.entries.now) (chars c.args.path.now) c.args.number c.args.list.now.items c.in-Some.next (reverse c.pop.new.self.items)
      c.loop-next.list.items c.in_ok-told.told (reverse c.push_siblings-in-Some.new.pending.items) (taken g (goal.at.loop-next-preserved g c).In-Some)
      (sym c.goes_inside.ensures ∙ c.if-not-goes_inside.false) (told g (goal.at.loop-next-preserved g c).In_ok-push)
      (λ cases there below.
      ap reverse (c.in_ok-push_siblings-2.ensures.ok cases there (rw c.child_link-child.ensures below))
      ∙ pushed (Some c.len-place.result) c.pop.new.self.items there
      ∙ ap (λ place. map (waits_in (Some place)) there ++ reverse c.pop.new.self.items) (c.len-place.ensures ∙ c.loop-next.list.ok.0)));
  emptied = c.in_ok-push_siblings-2.ensures.emptied;
}

pub returns-clause-ok : goal.returns-clause-ok
returns-clause-ok g c = λ cases inside content has.
    let none : c.loop-next.pending.items ≡ [] = nil_from_length c.loop-next.pending.items (sym c.loop-next.pending.ok.0 ∙ c.in_default.ensures.cases.0) in
    listing-end c.args.order (entries_of c.args.entries.now) (chars c.args.path.now) c.args.number c.args.list.now.items c.loop-next.list.items
    (subst (λ ws. Listing c.args.order (entries_of c.args.entries.now) (chars c.args.path.now) c.args.number c.args.list.now.items (reverse ws) c.loop-next.list.items) none
    c.loop-next.invariant.listing) cases inside content has
