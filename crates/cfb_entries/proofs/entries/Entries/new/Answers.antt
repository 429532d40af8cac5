use Rattle.std.proofs.Common.{◌≡◌, ◌∙◌, ◌++◌, ◌∷◌, [], List, ℕ, ap, refl, arith}
use Rattle.cfb_format.specs.Reading.{numbers}
use Rattle.cfb_codecs.specs.EntryModel.{entries_of}
use Rattle.cfb_outline.specs.Outlines.{AcceptsOutline}
use Rattle.cfb_siblings.proofs.Held.{entries-length}
use Rattle.cfb_entries.specs.EntryList.{HaveShortNames}
use Rattle.cfb_entries.proofs.Indexed.{root-last}
use Rattle.cfb_entries.proofs.entries.Entries.new.Goals as goal

pub invariant_of-result : goal.invariant_of-result
invariant_of-result g c =
    let (o, a, e) = c.in_ok-reached.ensures.ok in
    let accepted : AcceptsOutline c.args.validation c.args.letters (entries_of c.args.list.items) o = rw c.deref-2.ensures.value at a in
    let short : HaveShortNames (entries_of c.args.list.items) = rw c.deref.ensures.value at (c.if-not-have_short_names.ensures.0 refl) in (
      record { outline = o; is = accepted.outline; names = short; few = omega (arith, c.len.ensures, c.if-len-gt-MAX_ENTRIES.false, c.args.list.ok.0, entries-length c.args.list.items) },
      rw c.deref-3.ensures.value at c.in_ok-free.ensures.ok,
      rw c.deref-4.ensures.value at c.in_ok-index.ensures.covers,
      omega (arith, c.in_ok-index.ensures.room),
    )

pub returns-clause-accepted : goal.returns-clause-accepted
returns-clause-accepted g c =
    let (o, a, e) = c.in_ok-reached.ensures.ok in
    (o, rw c.deref-2.ensures.value at a)

pub returns-clause-fit : goal.returns-clause-fit
returns-clause-fit g c =
    let short : HaveShortNames (entries_of c.args.list.items) = rw c.deref.ensures.value at (c.if-not-have_short_names.ensures.0 refl) in
    (short, omega (arith, c.len.ensures, c.if-len-gt-MAX_ENTRIES.false))

pub index_of-requires-clause-reached : goal.index_of-requires-clause-reached
index_of-requires-clause-reached g c =
    let (o, a, e) = c.in_ok-reached.ensures.ok in
    let accepted : AcceptsOutline c.args.validation c.args.letters (entries_of c.args.list.items) o = rw c.deref-2.ensures.value at a in
    let items : c.deref-5.result.now ≡ numbers o ++ 0 ∷ [] = c.deref-5.ensures.value ∙ c.in_ok-push.ensures.items ∙ ap (λ (l : List ℕ). l ++ 0 ∷ []) e in
    rw (c.deref-4.ensures.value, items) (o, accepted.outline, λ p. root-last (numbers o) p)

pub index_of-requires-clause-short : goal.index_of-requires-clause-short
index_of-requires-clause-short g c =
    let short : HaveShortNames (entries_of c.args.list.items) = rw c.deref.ensures.value at (c.if-not-have_short_names.ensures.0 refl) in
    rw c.deref-4.ensures.value short
