use Rattle.std.proofs.Common.{◌≡◌, ℕ, List, ◌∙◌, ap, subst, length, drop, take, ◌++◌}
use Rattle.std.specs.Prelude.{◌%◌}
use Rattle.cfb_codecs.specs.EntryModel.{entries_of}
use Rattle.cfb_format.specs.DirectoryEntry.{Entry}
use Rattle.cfb_format.specs.Siblings.{entry_at}
use Rattle.cfb_entries.specs.EntryList.{EntryList}
use Rattle.cfb_entries.specs.Fields.{fields_in, entries_with_fields}
use Rattle.cfb_entries.proofs.Covered.{fields-covered}
use Rattle.cfb_entries.proofs.Lent.{written-back}
use Rattle.cfb_entries.proofs.Contents.{fields-in-order, fields-free}
use Rattle.cfb_entries.proofs.entries.Entries.set_fields.Goals as goal

pub invariant_of-self : goal.invariant_of-self
invariant_of-self g c =
    let s = c.self.inside in
    let new = c.change_fields.new.list in
    let (f, post, is) = c.change_fields.ensures in
    let back : take s.list.len (new ++ drop (length new) s.list.items) ≡ new = written-back s.list.len new (drop (length new) s.list.items) (c.change_fields.auto.list ∙ c.deref_mut.ensures.len) in
    let old : entries_of c.deref_mut.result.now ≡ entries_of s.list.items = ap entries_of c.deref_mut.ensures.value in
    let entries : entries_of s.list.items ≡ c.args.self.now.entries = ap (λ (e : EntryList). e.entries) c.self.view_is in
    let changed : entries_of (take s.list.len (new ++ drop (length new) s.list.items)) ≡ entries_with_fields (entries_of s.list.items) c.args.number f =
    ap entries_of back ∙ (is ∙ ap (λ (es : List Entry). entries_with_fields es c.args.number f) old) in
    let after = subst (λ (es : List Entry). g.W.FnOnce.post c.args.change (fields_in (entry_at es c.args.number), tt) f) (old ∙ entries) post in
    let whole : c.args.number ≡ 0 → f.stream_len % 64 ≡ 0 =
    λ e. c.requires.root_len e f (subst (λ (n : ℕ). g.W.FnOnce.post c.args.change (fields_in (entry_at c.args.self.now.entries n), tt) f) e after) in
    rw changed (
      fields-in-order (entries_of s.list.items) c.args.number f s.letters whole c.self.invariant.0,
      fields-free (entries_of s.list.items) c.args.number f s.free.items c.self.invariant.1,
      fields-covered s.letters (entries_of s.list.items) c.args.number f s.index whole c.self.invariant.0 c.self.invariant.2,
      c.self.invariant.3,
    )

pub returns-clause-changed : goal.returns-clause-changed
returns-clause-changed g c =
    let s = c.self.inside in
    let new = c.change_fields.new.list in
    let (f, post, is) = c.change_fields.ensures in
    let back : take s.list.len (new ++ drop (length new) s.list.items) ≡ new = written-back s.list.len new (drop (length new) s.list.items) (c.change_fields.auto.list ∙ c.deref_mut.ensures.len) in
    let same : entries_of c.deref_mut.result.now ≡ c.args.self.now.entries = ap entries_of c.deref_mut.ensures.value ∙ ap (λ (e : EntryList). e.entries) c.self.view_is in (
      f,
      subst (λ (es : List Entry). g.W.FnOnce.post c.args.change (fields_in (entry_at es c.args.number), tt) f) same post,
      ap entries_of back ∙ (is ∙ ap (λ (es : List Entry). entries_with_fields es c.args.number f) same),
    )
