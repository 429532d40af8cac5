use Rattle.std.proofs.Common.{◌≡◌, ◌∙◌, ap}
use Rattle.cfb_codecs.specs.EntryModel.{entries_of}
use Rattle.cfb_entries.specs.EntryList.{EntryList}
use Rattle.cfb_entries.proofs.Contents.{reached-parent}
use Rattle.cfb_entries.proofs.entries.Entries.prepare.Goals as goal

pub insertion_of-requires-clause-stands : goal.insertion_of-requires-clause-stands
insertion_of-requires-clause-stands g c =
    let cases : c.self.inside.letters ≡ c.args.self.now.cases = ap (λ (e : EntryList). e.cases) c.self.view_is in
    let entries : entries_of c.deref.result.now ≡ c.args.self.now.entries = ap entries_of c.deref.ensures.value ∙ ap (λ (e : EntryList). e.entries) c.self.view_is in
    rw (cases, entries) (reached-parent c.args.self.now.cases c.args.self.now.entries c.args.parent c.requires.parent)

pub insertion_of-requires-clause-absent : goal.insertion_of-requires-clause-absent
insertion_of-requires-clause-absent g c =
    let cases : c.self.inside.letters ≡ c.args.self.now.cases = ap (λ (e : EntryList). e.cases) c.self.view_is in
    let entries : entries_of c.deref.result.now ≡ c.args.self.now.entries = ap entries_of c.deref.ensures.value ∙ ap (λ (e : EntryList). e.entries) c.self.view_is in
    rw (cases, entries) c.requires.absent
