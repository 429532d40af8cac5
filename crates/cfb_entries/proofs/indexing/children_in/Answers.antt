use Rattle.std.proofs.Common.{◌≡◌, ◌++◌, List, ℕ, get_or, take, sym, ◌∙◌, ap, subst, arith}
use Rattle.std.specs.Prelude.{map}
use Rattle.std.proofs.lemmas.List.{take_all, take_more}
use Rattle.std.proofs.lemmas.List.Elements.{Contains-get_or}
use Rattle.cfb_codecs.specs.EntryModel.{entries_of}
use Rattle.cfb_entries.specs.Covering.{child_at}
use Rattle.cfb_entries.proofs.Indexed.{AreListed, more-listed, none-listed}
use Rattle.cfb_entries.proofs.indexing.children_in.Goals as goal

pub loop-storage-init : goal.loop-storage-init
loop-storage-init g c = none-listed (entries_of c.args.list.now) c.new-children.result.items c.new-children.ensures.items

pub children_of-requires-clause-inside : goal.children_of-requires-clause-inside
children_of-requires-clause-inside g c =
    let i = c.loop-storage.storage-index in
    c.requires.inside (get_or c.args.storages.now i 0) (Contains-get_or c.args.storages.now i 0 c.loop-storage-test.true)

pub children_of-requires-clause-listed : goal.children_of-requires-clause-listed
children_of-requires-clause-listed g c =
    let i = c.loop-storage.storage-index in
    c.requires.listed (get_or c.args.storages.now i 0) (Contains-get_or c.args.storages.now i 0 c.loop-storage-test.true)

pub loop-storage-preserved : goal.loop-storage-preserved
loop-storage-preserved g c =
    let es = entries_of c.args.list.now in
    let i = c.loop-storage.storage-index in
    let storages = c.args.storages.now in
    let s = get_or storages i 0 in
    let numbers = c.in_ok-numbers.numbers.items in
    let is : c.list_children.new.children.items ≡ c.loop-storage.children.items ++ map (child_at s) numbers =
    c.in_ok-list_children.ensures.ok ∙ ap (λ (l : List ℕ). c.loop-storage.children.items ++ map (child_at s) l) c.deref.ensures.value in
    subst (λ (l : List ℕ). AreListed es l c.list_children.new.children.items) (sym (take_more storages i 0 c.loop-storage-test.true))
    (more-listed es (take i storages) s numbers c.loop-storage.children.items c.list_children.new.children.items c.in_ok-numbers.ensures.ok is c.loop-storage.invariant)

pub returns-clause-ok : goal.returns-clause-ok
returns-clause-ok g c =
    subst (λ (l : List ℕ). AreListed (entries_of c.args.list.now) l c.loop-storage.children.items)
    (take_all c.loop-storage.storage-index c.args.storages.now (let past = c.loop-storage-test.false in omega (arith, past))) c.loop-storage.invariant
