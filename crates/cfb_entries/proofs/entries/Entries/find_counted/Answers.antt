use Rattle.std.proofs.Common.{◌≡◌, ◌∙◌, ap}
use Rattle.std.specs.Prelude.{chars, map}
use Rattle.cfb_codecs.specs.EntryModel.{entries_of}
use Rattle.cfb_entries.specs.Covering.{Covers}
use Rattle.cfb_entries.specs.EntryList.{AreInOrder, EntryList}
use Rattle.cfb_entries.proofs.Found.{names-counted, names-found, names-reached}
use Rattle.cfb_entries.proofs.entries.Entries.find_counted.Goals as goal

pub returns-clause-found : goal.returns-clause-found
returns-clause-found g c o is =
    let s = c.self.inside in
    let now = c.args.self.now in
    let cases : s.letters ≡ now.cases = ap (λ (e : EntryList). e.cases) c.self.view_is in
    let entries : entries_of s.list.items ≡ now.entries = ap (λ (e : EntryList). e.entries) c.self.view_is in
    let a : AreInOrder now.cases now.entries = rw (cases, entries) at c.self.invariant.0 in
    let covers : Covers now.cases now.entries s.index = rw (cases, entries) at c.self.invariant.2 in
    (rw cases at c.find_names.ensures.found) ∙ names-found now.cases now.entries o is a.names s.index covers (map (λ name. chars name.now) c.args.names.now)

pub returns-clause-reached : goal.returns-clause-reached
returns-clause-reached g c o is =
    let s = c.self.inside in
    let now = c.args.self.now in
    let cases : s.letters ≡ now.cases = ap (λ (e : EntryList). e.cases) c.self.view_is in
    let entries : entries_of s.list.items ≡ now.entries = ap (λ (e : EntryList). e.entries) c.self.view_is in
    let a : AreInOrder now.cases now.entries = rw (cases, entries) at c.self.invariant.0 in
    let covers : Covers now.cases now.entries s.index = rw (cases, entries) at c.self.invariant.2 in
    names-reached now.cases now.entries o is a.names s.index covers (map (λ name. chars name.now) c.args.names.now) c.find_names.result.0 (rw cases at c.find_names.ensures.found)

pub returns-clause-counted : goal.returns-clause-counted
returns-clause-counted g c o is =
    let s = c.self.inside in
    let now = c.args.self.now in
    let cases : s.letters ≡ now.cases = ap (λ (e : EntryList). e.cases) c.self.view_is in
    let entries : entries_of s.list.items ≡ now.entries = ap (λ (e : EntryList). e.entries) c.self.view_is in
    let a : AreInOrder now.cases now.entries = rw (cases, entries) at c.self.invariant.0 in
    let covers : Covers now.cases now.entries s.index = rw (cases, entries) at c.self.invariant.2 in
    names-counted now.cases now.entries o is a.names s.index covers (map (λ name. chars name.now) c.args.names.now) c.find_names.result.1 (rw cases at c.find_names.ensures.counted)
