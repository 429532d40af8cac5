use Rattle.std.proofs.Common.{◌≡◌, ℕ, List, sym, subst}
use Rattle.std.specs.Prelude.{OnOk, chars}
use Rattle.cfb_format.specs.Bytes.{no_stream}
use Rattle.cfb_format.specs.Siblings.{entry_at}
use Rattle.cfb_directory.specs.cfb_siblings.Children.{HasChildren, IsChildNamed, KeepsBalance}
use Rattle.cfb_entries.specs.EntryList.{RemovesEntry}
use Rattle.cfb_directory.specs.State.{DirectoryState, HoldsDirectory, directory_of}
use Rattle.cfb_directory.specs.Steps.{KeepsOtherSectors, KeepsOtherSlots}
use Rattle.cfb_directory.proofs.LeastAbove.{least-kept}
use Rattle.cfb_directory.proofs.directory.Directory.remove_dir_entry.Goals as goal

pub remove_entry-requires-clause-there : goal.remove_entry-requires-clause-there
remove_entry-requires-clause-there g c = subst (λ (d : DirectoryState). (list : List ℕ) → HasChildren d.cases d.entries c.args.parent list
    → (n : ℕ) × IsChildNamed d.cases d.entries (chars c.args.name.now) list n × ((entry_at d.entries n).child ≡ no_stream)) (sym c.self.view_is) c.requires.there

pub returns-clause-holds : goal.returns-clause-holds
returns-clause-holds g c told validation h =
    let table = c.self.inside.allocator in
    let list = c.self.inside.entries in
    let here = subst (λ (s : List ℕ). HoldsDirectory validation (directory_of table s list)) (sym c.deref.ensures.value) (subst (HoldsDirectory validation) (sym c.self.view_is) h) in
    subst (λ (s : List ℕ). OnOk c.remove_entry.result (HoldsDirectory validation (directory_of c.remove_entry.new.allocator s c.remove_entry.new.entries))) c.deref.ensures.value
    (c.remove_entry.ensures.holds told validation here)

pub returns-clause-others : goal.returns-clause-others
returns-clause-others g c told =
    let table = c.self.inside.allocator in
    let list = c.self.inside.entries in
    subst (λ (d : DirectoryState). KeepsOtherSectors d (directory_of c.remove_entry.new.allocator c.self.inside.sectors.items c.remove_entry.new.entries)) c.self.view_is
    (subst (λ (s : List ℕ). KeepsOtherSectors (directory_of table s list) (directory_of c.remove_entry.new.allocator s c.remove_entry.new.entries)) c.deref.ensures.value
    (c.remove_entry.ensures.others told))

pub returns-clause-slots : goal.returns-clause-slots
returns-clause-slots g c told validation h =
    let table = c.self.inside.allocator in
    let list = c.self.inside.entries in
    let here = subst (λ (s : List ℕ). HoldsDirectory validation (directory_of table s list)) (sym c.deref.ensures.value) (subst (HoldsDirectory validation) (sym c.self.view_is) h) in
    subst (λ (d : DirectoryState). KeepsOtherSlots c.args.parent d (directory_of c.remove_entry.new.allocator c.self.inside.sectors.items c.remove_entry.new.entries)) c.self.view_is
    (subst (λ (s : List ℕ). KeepsOtherSlots c.args.parent (directory_of table s list) (directory_of c.remove_entry.new.allocator s c.remove_entry.new.entries)) c.deref.ensures.value
    (c.remove_entry.ensures.slots told validation here))

pub returns-clause-removed : goal.returns-clause-removed
returns-clause-removed g c = subst (λ (d : DirectoryState). OnOk c.remove_entry.result (RemovesEntry d.cases d.entries c.remove_entry.new.entries.entries c.args.parent (chars c.args.name.now))) c.self.view_is c.remove_entry.ensures.removed

pub returns-clause-balanced : goal.returns-clause-balanced
returns-clause-balanced g c = subst (λ (d : DirectoryState). OnOk c.remove_entry.result (KeepsBalance d.entries c.remove_entry.new.entries.entries c.args.parent)) c.self.view_is c.remove_entry.ensures.balanced

pub remove_entry-requires-clause-above : goal.remove_entry-requires-clause-above
remove_entry-requires-clause-above g c = least-kept c.self.inside.sectors.items c.deref.result.now c.self.inside.above c.deref.ensures.value c.self.invariant
