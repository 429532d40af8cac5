use Rattle.std.proofs.Common.{◌≡◌, ◌+◌, ℕ, suc, List, [], ◌∷◌, ◌++◌, true, false, take, drop, get_or, refl, sym, ◌∙◌, ap, subst, add-one}
use Rattle.std.specs.Prelude.{slice_index_or}
use Rattle.std.proofs.Math.Seq.{take-suc, drop-cons}
use Rattle.std.proofs.lemmas.List.{take-append-drop, take_all}
use Rattle.cfb_format.specs.DirectoryEntry.{Entry}
use Rattle.cfb_codecs.specs.EntryModel.{entry_of}
use Rattle.cfb_format.specs.Siblings.{entry_at}
use Rattle.cfb_soundness.specs.Marks.{Marked}
use Rattle.cfb_soundness.specs.Parts.{parts_reading}
use Rattle.cfb_soundness.specs.Streams.{own_sectors, own_mini_sectors, StreamFits, StreamsFit}
use Rattle.cfb_soundness.proofs.MarkLemmas.{true_false}
use Rattle.cfb_soundness.proofs.StreamLemmas.{gone-none, gone-more, gone-refused, gone-past, entry-there, entry-past}
use Rattle.cfb_soundness.proofs.streams.mark_streams.Goals as goal
use Rattle.cfb_soundness.proofs.streams.mark_streams.Goals.{then-at-parts+in_ok-clone+in_ok-mark_stream+else-not-branch, else-at-parts}

pub loop-number-init : goal.loop-number-init
loop-number-init g c = gone-none (parts_reading c.args.parts.now) c.args.parts.now.len c.args.marks.now c.args.mini_marks.now

pub returns-then-not-branch-clause-fit : goal.returns-then-not-branch-clause-fit
returns-then-not-branch-clause-fit g c = λ bytes used mini_used size holds mini_holds. (
  λ h. let f : false ≡ true = h in cc,
  λ f.
      let r = parts_reading c.args.parts.now in
      let numbers = c.args.parts.now.streams.now in
      let l = c.loop-number in
      let k = l.number-index in
      let x = get_or numbers k 0 in
      let split : numbers ≡ take k numbers ++ x ∷ drop (suc k) numbers =
      sym (take-append-drop k numbers) ∙ ap (λ (z : List ℕ). take k numbers ++ z) (drop-cons numbers k 0 c.loop-number-test.true) in
      let is : entry_at r.entries x ≡ entry_of (slice_index_or c.args.parts.now.entries.now x c.index-parts-at.result) =
      entry-there c.args.parts.now.entries.now x c.index-parts-at.result c.if-at-parts.true in
      absurd (gone-refused r c.args.parts.now.len c.args.marks.now c.args.mini_marks.now (take k numbers) l.marks l.mini_marks l.marks l.mini_marks l.invariant x
      bytes used mini_used (drop (suc k) numbers) size holds mini_holds
      (λ fits. true_false _ ((c.in_ok-mark_stream.ensures.fits bytes size).1 (subst (λ (e : Entry). StreamFits bytes r e l.marks l.mini_marks) is fits)) c.if-not-branch.true)
      (subst (λ (z : List ℕ). StreamsFit bytes r z used mini_used) split f)),
)

pub loop-number-preserved : goal.loop-number-preserved
loop-number-preserved g c =
    let r = parts_reading c.args.parts.now in
    let numbers = c.args.parts.now.streams.now in
    let l = c.loop-number in
    let k = l.number-index in
    let x = get_or numbers k 0 in
    let more : take (k + 1) numbers ≡ take k numbers ++ x ∷ [] = ap (λ (n : ℕ). take n numbers) (add-one k) ∙ take-suc numbers k 0 c.loop-number-test.true in
    rw more (elim c.if-at-parts.branch [
      | then-at-parts+in_ok-clone+in_ok-mark_stream+else-not-branch w ↦
          let is : entry_at r.entries x ≡ entry_of (slice_index_or c.args.parts.now.entries.now x w.index-parts-at.result) =
          entry-there c.args.parts.now.entries.now x w.index-parts-at.result w.if-at-parts.true in
          rw (w.marks-is, w.mini_marks-is)
          (gone-more r c.args.parts.now.len c.args.marks.now c.args.mini_marks.now (take k numbers) l.marks l.mini_marks w.mark_stream.new.marks w.mark_stream.new.mini_marks l.invariant x
          (λ bytes size. subst (λ (e : Entry). StreamFits bytes r e l.marks l.mini_marks) (sym is) ((w.in_ok-mark_stream.ensures.fits bytes size).0 w.if-not-branch.false))
          (subst (λ (e : Entry). Marked l.marks (own_sectors r e) w.mark_stream.new.marks) (sym is) (w.in_ok-mark_stream.ensures.marked w.if-not-branch.false))
          (subst (λ (e : Entry). Marked l.mini_marks (own_mini_sectors r e) w.mark_stream.new.mini_marks) (sym is) (w.in_ok-mark_stream.ensures.mini_marked w.if-not-branch.false)))
      | else-at-parts w ↦
          rw (w.marks-is, w.mini_marks-is)
          (gone-past r c.args.parts.now.len c.args.marks.now c.args.mini_marks.now (take k numbers) l.marks l.mini_marks l.invariant x (entry-past c.args.parts.now.entries.now x w.if-at-parts.false))
    ])

pub returns-clause-fit : goal.returns-clause-fit
returns-clause-fit g c = λ bytes used mini_used size holds mini_holds.
    let numbers = c.args.parts.now.streams.now in
    let all : take c.loop-number.number-index numbers ≡ numbers = take_all c.loop-number.number-index numbers c.loop-number-test.false in
    ((λ _h. rw all at (c.loop-number.invariant.fit bytes used mini_used size holds mini_holds)), λ _f. refl)

pub returns-clause-marked : goal.returns-clause-marked
returns-clause-marked g c = λ used holds _h.
    let numbers = c.args.parts.now.streams.now in
    let all : take c.loop-number.number-index numbers ≡ numbers = take_all c.loop-number.number-index numbers c.loop-number-test.false in
    rw all at (c.loop-number.invariant.marked used holds)

pub returns-clause-mini_marked : goal.returns-clause-mini_marked
returns-clause-mini_marked g c = λ used holds _h.
    let numbers = c.args.parts.now.streams.now in
    let all : take c.loop-number.number-index numbers ≡ numbers = take_all c.loop-number.number-index numbers c.loop-number-test.false in
    rw all at (c.loop-number.invariant.mini_marked used holds)
