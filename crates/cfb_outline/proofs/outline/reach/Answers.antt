use Rattle.std.proofs.Common.{◌≡◌, ◌<◌, ◌+◌, [], ◌∷◌, ◌++◌, length, reverse, refl, sym, ◌∙◌, ap, subst, arith, true, set}
use Rattle.std.proofs.lemmas.List.{length-map, length-append, nil_from_length, reverse-reverse, reverse-append}
use Rattle.std.proofs.lemmas.Result.{err_from_is_err_and}
use Rattle.cfb_format.specs.Siblings.{entry_at}
use Rattle.cfb_codecs.specs.EntryModel.{entry_of}
use Rattle.cfb_codecs.proofs.Refusals.{refusal_follows}
use Rattle.cfb_codecs.specs.EntryModel.{entries_of}
use Rattle.cfb_outline.proofs.Walking.{push-reverse}
use Rattle.cfb_outline.proofs.Reaching.{Reached, reach-start, reach-stream, reach-storage, reach-end, reach-broken, start-broken, reach-room, reach-inside, first-marks, root-kind, root-whole}
use Rattle.cfb_outline.proofs.outline.reach.Goals as goal
use Rattle.cfb_outline.proofs.outline.reach.Goals.{In-Some}

pub returns-in_err-walk_siblings-clause-refused : goal.returns-in_err-walk_siblings-clause-refused
returns-in_err-walk_siblings-clause-refused g c =
    let p = err_from_is_err_and c.from_residual-in_err-walk_siblings.result c.from_residual-in_err-walk_siblings.ensures.1 in
    let n : 0 < length c.args.entries.now = omega (arith, c.if-entries-eq0.false) in
    rw (p.1, p.2) (refusal_follows c.in_err-walk_siblings.field-0.0 _ _ (λ none o is.
    start-broken c.args.cases.now (entries_of c.args.entries.now) (set c.in_ok-seen.seen.items 0 true)
    (first-marks (length c.args.entries.now) c.in_ok-seen.seen.items (set c.in_ok-seen.seen.items 0 true) c.in_ok-seen.ensures.marks n refl)
    (λ list f. none list (rw c.child_link-first.ensures f)) o is) c.in_err-walk_siblings.ensures.refused)

pub loop-number-init : goal.loop-number-init
loop-number-init g c =
    let es = entries_of c.args.entries.now in
    let q = c.in_ok-walk_siblings.ensures.ok in
    let n : 0 < length c.args.entries.now = omega (arith, c.if-entries-eq0.false) in
    let f = rw c.child_link-first.ensures at q.1 in
    let whole : length c.walk_siblings.new.seen.items ≡ length es = c.in_ok-walk_siblings.ensures.size ∙ sym (length-map c.args.entries.now entry_of) in
    let line : reverse c.walk_siblings.new.pending.items ≡ q.0 = ap reverse (q.2 ∙ ap (λ xs. xs ++ reverse q.0) c.new-pending.ensures.items) ∙ reverse-reverse q.0 in
    record {
      tops = q.0;
      below = f.below;
      reached = rw (line, c.new-order.ensures.items)
          (reach-start c.args.cases.now es (entry_at es 0).child q.0 (set c.in_ok-seen.seen.items 0 true) c.walk_siblings.new.seen.items f whole
          (first-marks (length c.args.entries.now) c.in_ok-seen.seen.items (set c.in_ok-seen.seen.items 0 true) c.in_ok-seen.ensures.marks n refl) q.3);
      emptied = c.in_ok-walk_siblings.ensures.emptied;
    }

popped : (g : _) (c : In-Some g) → Reached c.args.cases.now (entries_of c.args.entries.now) c.loop-number.invariant.tops (c.in-Some.number ∷ reverse c.pop.new.self.items) c.loop-number.order.items c.loop-number.seen.items
popped g c =
    subst (λ st. Reached c.args.cases.now (entries_of c.args.entries.now) c.loop-number.invariant.tops st c.loop-number.order.items c.loop-number.seen.items)
    (ap reverse c.in-Some.ensures.items ∙ push-reverse c.pop.new.self.items c.in-Some.number) c.loop-number.invariant.reached

room : (g : _) (c : In-Some g) → length c.loop-number.order.items < length c.args.entries.now
room g c =
    let r = reach-room c.args.cases.now (entries_of c.args.entries.now) c.loop-number.invariant.tops (c.in-Some.number ∷ reverse c.pop.new.self.items) c.loop-number.order.items c.loop-number.seen.items (popped g c) in
    omega (arith, r, length-map c.args.entries.now entry_of)

pub is_storage-requires : goal.is_storage-requires
is_storage-requires g c =
    let l = reach-inside c.args.cases.now (entries_of c.args.entries.now) c.loop-number.invariant.tops (reverse c.pop.new.self.items) c.loop-number.order.items c.loop-number.seen.items c.in-Some.number
    (popped g (goal.at.is_storage-requires g c).In-Some) in
    omega (arith, l, length-map c.args.entries.now entry_of)

pub loop-number-smaller-then-not-is_storage : goal.loop-number-smaller-then-not-is_storage
loop-number-smaller-then-not-is_storage g c =
    let r = room g (goal.at.loop-number-smaller-then-not-is_storage g c).In-Some in
    let q : length c.push.new.self.items ≡ length c.loop-number.order.items + 1 = ap length c.in_ok-push.ensures.items ∙ length-append c.loop-number.order.items (c.in-Some.number ∷ []) in
    omega (arith, r, q)

pub loop-number-preserved-then-not-is_storage : goal.loop-number-preserved-then-not-is_storage
loop-number-preserved-then-not-is_storage g c = record {
  tops = c.loop-number.invariant.tops;
  below = c.loop-number.invariant.below;
  reached = rw c.in_ok-push.ensures.items
      (reach-stream c.args.cases.now (entries_of c.args.entries.now) c.loop-number.invariant.tops (reverse c.pop.new.self.items) c.loop-number.order.items c.loop-number.seen.items c.in-Some.number
      (popped g (goal.at.loop-number-preserved-then-not-is_storage g c).In-Some) (sym c.is_storage.ensures ∙ c.if-not-is_storage.true));
  emptied = c.loop-number.invariant.emptied;
}

pub returns-in_err-walk_siblings-2-clause-refused : goal.returns-in_err-walk_siblings-2-clause-refused
returns-in_err-walk_siblings-2-clause-refused g c =
    let p = err_from_is_err_and c.from_residual-in_err-walk_siblings-2.result c.from_residual-in_err-walk_siblings-2.ensures.1 in
    rw (p.1, p.2) (refusal_follows c.in_err-walk_siblings-2.field-0.0 _ _ (λ none o is.
    reach-broken c.args.cases.now (entries_of c.args.entries.now) c.loop-number.invariant.tops (reverse c.pop.new.self.items) c.loop-number.order.items c.loop-number.seen.items c.in-Some.number
    (popped g (goal.at.returns-in_err-walk_siblings-2-clause-refused g c).In-Some) (sym c.is_storage.ensures ∙ c.if-not-is_storage.false) c.loop-number.invariant.below
    (λ list f. none list (rw c.child_link-child.ensures f)) o is) c.in_err-walk_siblings-2.ensures.refused)

pub loop-number-smaller : goal.loop-number-smaller
loop-number-smaller g c =
    let r = room g (goal.at.loop-number-smaller g c).In-Some in
    let q : length c.push.new.self.items ≡ length c.loop-number.order.items + 1 = ap length c.in_ok-push.ensures.items ∙ length-append c.loop-number.order.items (c.in-Some.number ∷ []) in
    omega (arith, r, q)

pub loop-number-preserved : goal.loop-number-preserved
loop-number-preserved g c =
    let es = entries_of c.args.entries.now in
    let inv = c.loop-number.invariant in
    let q = rw c.child_link-child.ensures at c.in_ok-walk_siblings-2.ensures.ok in
    let whole : length c.walk_siblings-in-Some.new.seen.items ≡ length es = c.in_ok-walk_siblings-2.ensures.size ∙ sym (length-map c.args.entries.now entry_of) in
    let line : reverse c.walk_siblings-in-Some.new.pending.items ≡ q.0 ++ reverse c.pop.new.self.items =
    ap reverse q.2 ∙ reverse-append c.pop.new.self.items (reverse q.0) ∙ ap (λ xs. xs ++ reverse c.pop.new.self.items) (reverse-reverse q.0) in
    record {
      tops = inv.tops;
      below = inv.below;
      reached = rw (line, c.in_ok-push.ensures.items)
          (reach-storage c.args.cases.now es inv.tops (reverse c.pop.new.self.items) c.loop-number.order.items c.loop-number.seen.items c.walk_siblings-in-Some.new.seen.items c.in-Some.number q.0
          (popped g (goal.at.loop-number-preserved g c).In-Some) (sym c.is_storage.ensures ∙ c.if-not-is_storage.false) q.1 whole q.3);
      emptied = c.in_ok-walk_siblings-2.ensures.emptied;
    }

pub returns-clause-ok : goal.returns-clause-ok
returns-clause-ok g c =
    let es = entries_of c.args.entries.now in
    let none : c.loop-number.pending.items ≡ [] = nil_from_length c.loop-number.pending.items (sym c.loop-number.pending.ok.0 ∙ c.in_default.ensures.cases.0) in
    let yes-root = sym c.has_root.ensures ∙ c.if-not-has_root.false in
    reach-end c.args.cases.now es c.loop-number.invariant.tops c.loop-number.order.items c.loop-number.seen.items
    (subst (λ st. Reached c.args.cases.now es c.loop-number.invariant.tops (reverse st) c.loop-number.order.items c.loop-number.seen.items) none c.loop-number.invariant.reached)
    c.loop-number.invariant.below (root-kind (entry_at es 0) yes-root) (root-whole (entry_at es 0) yes-root)
