use Rattle.std.proofs.Common.{◌≡◌, ◌∙◌, ap, sym, subst}
use Rattle.std.specs.Prelude.{slice_set, slice_index_or}
use Rattle.std.proofs.lemmas.List.{map-set}
use Rattle.cfb_format.specs.DirectoryEntry.{Entry}
use Rattle.cfb_codecs.specs.EntryModel.{entry_of, entries_of}
use Rattle.cfb_format.specs.Siblings.{entry_at}
use Rattle.cfb_entries.specs.declared.fields.Fields.{Fields}
use Rattle.cfb_entries.specs.Fields.{fields_in, entry_with_fields}
use Rattle.cfb_entries.proofs.Lent.{read-entry}
use Rattle.cfb_entries.proofs.fields.change_fields.Goals as goal

pub returns : goal.returns
returns g c =
    let entry : entry_at (entries_of c.args.list.now) c.args.number ≡ entry_of (slice_index_or c.args.list.now c.args.number c.index-list-number.result) = read-entry c.args.list.now c.args.number c.index-list-number.result c.requires.inside in
    let same : c.fields_of.result ≡ fields_in (entry_at (entries_of c.args.list.now) c.args.number) = c.fields_of.ensures ∙ ap fields_in (sym entry) in (
      c.change-changed.result,
      subst (λ (f : Fields). g.W.FnOnce.post c.args.change (f, tt) c.change-changed.result) same c.change-changed.ensures,
      map-set entry_of c.args.list.now c.args.number c.put_fields.new.entry
          ∙ ap (slice_set (entries_of c.args.list.now) c.args.number) (c.put_fields.ensures ∙ ap (λ (e : Entry). entry_with_fields e c.change-changed.result) (sym entry)),
    )
