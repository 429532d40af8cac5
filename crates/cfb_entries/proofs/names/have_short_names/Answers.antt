use Rattle.std.proofs.Common.{◌≡◌, ◌≤◌, sym, subst, refl, length, false, true, below_more}
use Rattle.cfb_format.specs.DirectoryEntry.{Entry}
use Rattle.cfb_format.specs.Names.{utf16_units, max_name_len}
use Rattle.cfb_format.specs.Siblings.{entry_at}
use Rattle.cfb_codecs.specs.EntryModel.{entry_of, entries_of}
use Rattle.cfb_siblings.proofs.Held.{entries-length}
use Rattle.cfb_entries.proofs.Lent.{read-entry}
use Rattle.cfb_entries.proofs.Contents.{IsShortAt}
use Rattle.cfb_entries.proofs.names.have_short_names.Goals as goal

pub returns-then-not-has_short_name : goal.returns-then-not-has_short_name
returns-then-not-has_short_name g c =
    let i = c.loop-entry.entry-index in
    let e = read-entry c.args.list.now i c.entry-item.result c.loop-entry-test.true in
    let here : entry_at (entries_of c.args.list.now) i ≡ entry_of c.entry-item.result = cc in (
      λ t. absurd (let q : false ≡ true = t in cc),
      λ h. c.if-not-has_short_name.ensures.1 (subst (λ (x : Entry). length (utf16_units x.name) ≤ max_name_len) here (h i (rw (entries-length c.args.list.now) c.loop-entry-test.true))),
    )

pub loop-entry-preserved : goal.loop-entry-preserved
loop-entry-preserved g c =
    let i = c.loop-entry.entry-index in
    let e = read-entry c.args.list.now i c.entry-item.result c.loop-entry-test.true in
    let here : entry_at (entries_of c.args.list.now) i ≡ entry_of c.entry-item.result = cc in
    below_more (IsShortAt (entries_of c.args.list.now)) i c.loop-entry.invariant
    (subst (λ (x : Entry). length (utf16_units x.name) ≤ max_name_len) (sym here) (c.if-not-has_short_name.ensures.0 refl))
