use Rattle.std.proofs.Common.{◌≡◌, ◌↔◌, ℕ, List, [], true, false, refl, sym, subst, arith}
use Rattle.std.specs.Prelude.{Contains}
use Rattle.std.proofs.lemmas.Bool.{le-leb, lt-leb}
use Rattle.cfb_format.specs.Content.{is_large}
use Rattle.cfb_codecs.specs.EntryModel.{entry_of}
use Rattle.cfb_soundness.specs.Marks.{Marked}
use Rattle.cfb_soundness.specs.Parts.{parts_reading}
use Rattle.cfb_soundness.proofs.MarkLemmas.{marked-none}
use Rattle.cfb_soundness.proofs.StreamLemmas.{large-none, large-fits, large-own, large-mini, small-sectors, empty-mini, empty-fits, small-own, small-fits, small-none}
use Rattle.cfb_soundness.proofs.streams.mark_stream.Goals as goal
use Rattle.cfb_format.proofs.Walks.{follows-member}

-- one test after another
through : (A B C : Type 0) → A ↔ B → B ↔ C → A ↔ C
through A B C f g = ((λ a. g.0 (f.0 a)), λ x. f.1 (g.1 x))

pub returns-in_default-clause-fits : goal.returns-in_default-clause-fits
returns-in_default-clause-fits g c = λ bytes size.
    let e = entry_of c.args.entry.now in
    let large : is_large e ≡ true = le-leb 4096 e.stream_len c.if-entry.true in (
      λ h. let f : false ≡ true = h in cc,
      λ f. absurd (large-none bytes (parts_reading c.args.parts.now) e c.args.marks.now c.args.mini_marks.now large (rw c.in_default.is at c.in_ok-list.ensures.none) f),
    )

pub returns-then-entry-clause-fits : goal.returns-then-entry-clause-fits
returns-then-entry-clause-fits g c = λ bytes size.
    let e = entry_of c.args.entry.now in
    let r = parts_reading c.args.parts.now in
    let large : is_large e ≡ true = le-leb 4096 e.stream_len c.if-entry.true in
    let chain = rw c.in-Some.is at c.in_ok-list.ensures.chain in
    let fresh = rw c.in-Some.is at c.in_ok-list.ensures.fresh in
    let whole = rw c.deref.ensures.value at (c.is_whole.ensures bytes size) in
    let fits = large-fits bytes r e c.args.marks.now c.args.mini_marks.now large c.in-Some.list.items chain fresh in
    ((λ h. fits.0 (whole.0 h)), λ f. whole.1 (fits.1 f))

pub returns-then-entry-clause-marked : goal.returns-then-entry-clause-marked
returns-then-entry-clause-marked g c = λ _h.
    let e = entry_of c.args.entry.now in
    let r = parts_reading c.args.parts.now in
    let large : is_large e ≡ true = le-leb 4096 e.stream_len c.if-entry.true in
    let chain = rw c.in-Some.is at c.in_ok-list.ensures.chain in
    let marked = rw c.in-Some.is at c.in_ok-list.ensures.marked in
    subst (λ (z : List ℕ). Marked c.args.marks.now z c.walk_marking.new.marks)
    (sym (large-own [] r e c.args.marks.now c.args.mini_marks.now large c.in-Some.list.items chain)) marked

pub returns-then-entry-clause-mini_marked : goal.returns-then-entry-clause-mini_marked
returns-then-entry-clause-mini_marked g c = λ _h.
    let e = entry_of c.args.entry.now in
    let large : is_large e ≡ true = le-leb 4096 e.stream_len c.if-entry.true in
    subst (λ (z : List ℕ). Marked c.args.mini_marks.now z c.args.mini_marks.now)
    (sym (large-mini [] (parts_reading c.args.parts.now) e c.args.marks.now c.args.mini_marks.now large)) (marked-none c.args.mini_marks.now)

pub returns-then-entry-eq0-clause-fits : goal.returns-then-entry-eq0-clause-fits
returns-then-entry-eq0-clause-fits g c = λ bytes size.
    let e = entry_of c.args.entry.now in
    let small : is_large e ≡ false = lt-leb 4096 e.stream_len c.if-entry.false in
    ((λ _h. empty-fits bytes (parts_reading c.args.parts.now) e c.args.marks.now c.args.mini_marks.now small c.if-entry-eq0.true), λ _f. refl)

pub returns-then-entry-eq0-clause-marked : goal.returns-then-entry-eq0-clause-marked
returns-then-entry-eq0-clause-marked g c = λ _h.
    let e = entry_of c.args.entry.now in
    let small : is_large e ≡ false = lt-leb 4096 e.stream_len c.if-entry.false in
    subst (λ (z : List ℕ). Marked c.args.marks.now z c.args.marks.now)
    (sym (small-sectors [] (parts_reading c.args.parts.now) e c.args.marks.now c.args.mini_marks.now small)) (marked-none c.args.marks.now)

pub returns-then-entry-eq0-clause-mini_marked : goal.returns-then-entry-eq0-clause-mini_marked
returns-then-entry-eq0-clause-mini_marked g c = λ _h.
    let e = entry_of c.args.entry.now in
    let small : is_large e ≡ false = lt-leb 4096 e.stream_len c.if-entry.false in
    subst (λ (z : List ℕ). Marked c.args.mini_marks.now z c.args.mini_marks.now)
    (sym (empty-mini [] (parts_reading c.args.parts.now) e c.args.marks.now c.args.mini_marks.now small c.if-entry-eq0.true)) (marked-none c.args.mini_marks.now)

pub returns-in_default-2-clause-fits : goal.returns-in_default-2-clause-fits
returns-in_default-2-clause-fits g c = λ bytes size.
    let e = entry_of c.args.entry.now in
    let small : is_large e ≡ false = lt-leb 4096 e.stream_len c.if-entry.false in (
      λ h. let f : false ≡ true = h in cc,
      λ f. absurd (small-none bytes (parts_reading c.args.parts.now) e c.args.marks.now c.args.mini_marks.now small c.if-entry-eq0.false
          (rw c.in_default-2.is at c.in_ok-list-2.ensures.none) f),
    )

pub is_whole-requires-2 : goal.is_whole-requires-2
is_whole-requires-2 g c = λ m has.
    let chain = rw c.in-Some-2.is at c.in_ok-list-2.ensures.chain in
    let has' : Contains c.in-Some-2.list.items m = rw c.deref-2.ensures.value at has in
    let below = (follows-member c.args.parts.now.minifat.now c.args.entry.now.start_sector c.in-Some-2.list.items chain.follows m has').0 in
    omega (arith, below, c.requires.room)

pub returns-clause-fits : goal.returns-clause-fits
returns-clause-fits g c = λ bytes size.
    let e = entry_of c.args.entry.now in
    let r = parts_reading c.args.parts.now in
    let small : is_large e ≡ false = lt-leb 4096 e.stream_len c.if-entry.false in
    let chain = rw c.in-Some-2.is at c.in_ok-list-2.ensures.chain in
    let fresh = rw c.in-Some-2.is at c.in_ok-list-2.ensures.fresh in
    let whole = rw c.deref-2.ensures.value at (c.is_whole-2.ensures bytes size) in
    let fits = small-fits bytes r e c.args.marks.now c.args.mini_marks.now small c.if-entry-eq0.false c.args.root.now c.in-Some-2.list.items c.requires.root c.requires.room chain fresh in
    ((λ h. fits.0 (whole.0 h)), λ f. whole.1 (fits.1 f))

pub returns-clause-marked : goal.returns-clause-marked
returns-clause-marked g c = λ _h.
    let e = entry_of c.args.entry.now in
    let small : is_large e ≡ false = lt-leb 4096 e.stream_len c.if-entry.false in
    subst (λ (z : List ℕ). Marked c.args.marks.now z c.args.marks.now)
    (sym (small-sectors [] (parts_reading c.args.parts.now) e c.args.marks.now c.args.mini_marks.now small)) (marked-none c.args.marks.now)

pub returns-clause-mini_marked : goal.returns-clause-mini_marked
returns-clause-mini_marked g c = λ _h.
    let e = entry_of c.args.entry.now in
    let r = parts_reading c.args.parts.now in
    let small : is_large e ≡ false = lt-leb 4096 e.stream_len c.if-entry.false in
    let chain = rw c.in-Some-2.is at c.in_ok-list-2.ensures.chain in
    let marked = rw c.in-Some-2.is at c.in_ok-list-2.ensures.marked in
    subst (λ (z : List ℕ). Marked c.args.mini_marks.now z c.walk_marking-2.new.marks)
    (sym (small-own [] r e c.args.marks.now c.args.mini_marks.now small c.if-entry-eq0.false c.in-Some-2.list.items chain)) marked
