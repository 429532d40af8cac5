use Rattle.std.proofs.Common.{◌≡◌, ◌≢◌, ◌++◌, ◌∷◌, [], ℕ, List, ap, length, length-append, drop, take, ◌∙◌, arith}
use Rattle.std.specs.Prelude.{Contains}
use Rattle.cfb_format.specs.declared.objtype.ObjType.TheVariants.{Stream}
use Rattle.cfb_format.specs.Siblings.{entry_at}
use Rattle.cfb_codecs.specs.EntryModel.{entries_of}
use Rattle.cfb_siblings.proofs.Held.{raw-in}
use Rattle.cfb_entries.proofs.Covered.{covers-same}
use Rattle.cfb_entries.proofs.Emptied.{emptied-covered, emptied-number, emptied-parent, emptied-within}
use Rattle.cfb_entries.proofs.Lent.{written-back}
use Rattle.cfb_entries.proofs.clearing.clear_storage.Goals as goal

pub clear_entries-requires-clause-within : goal.clear_entries-requires-clause-within
clear_entries-requires-clause-within g c k m = rw c.deref_mut.ensures.value (c.requires.within k m)

pub returns-clause-cleared : goal.returns-clause-cleared
returns-clause-cleared g c =
    let new = c.clear_entries.new.list in
    let back : take c.args.list.now.len (new ++ drop (length new) c.args.list.now.items) ≡ new =
    written-back c.args.list.now.len new (drop (length new) c.args.list.now.items) (c.clear_entries.auto.list ∙ c.deref_mut.ensures.len) in
    (rw back (rw c.deref_mut.ensures.value at c.clear_entries.ensures), c.in_ok-extend_from_slice-2.ensures.items)

-- ---- the index

pub children_in-requires-clause-inside : goal.children_in-requires-clause-inside
children_in-requires-clause-inside g c p m =
    let es = entries_of c.args.list.now.items in
    let touched : c.deref-2.result.now ≡ c.args.top ∷ c.args.inside.now =
    c.deref-2.ensures.value ∙ c.in_ok-extend_from_slice.ensures.items ∙ ap (λ (l : List ℕ). l ++ c.args.inside.now) (c.in_ok-push.ensures.items ∙ ap (λ (l : List ℕ). l ++ c.args.top ∷ []) c.new-touched.ensures.items) in
    rw c.deref.ensures.value (raw-in c.args.list.now.items p (emptied-within c.args.letters.now es c.args.top c.args.inside.now c.requires.storage c.requires.all p (rw touched at m)))

pub children_in-requires-clause-listed : goal.children_in-requires-clause-listed
children_in-requires-clause-listed g c p m ne =
    let es = entries_of c.args.list.now.items in
    let touched : c.deref-2.result.now ≡ c.args.top ∷ c.args.inside.now =
    c.deref-2.ensures.value ∙ c.in_ok-extend_from_slice.ensures.items ∙ ap (λ (l : List ℕ). l ++ c.args.inside.now) (c.in_ok-push.ensures.items ∙ ap (λ (l : List ℕ). l ++ c.args.top ∷ []) c.new-touched.ensures.items) in
    rw c.deref.ensures.value (c.args.letters.now, emptied-parent c.args.letters.now es c.args.top c.args.inside.now c.requires.storage c.requires.all p (rw touched at m) (rw c.deref.ensures.value at ne))

pub take_entries-requires-clause-inside : goal.take_entries-requires-clause-inside
take_entries-requires-clause-inside g c child m =
    let es = entries_of c.args.list.now.items in
    let touched : c.deref-2.result.now ≡ c.args.top ∷ c.args.inside.now =
    c.deref-2.ensures.value ∙ c.in_ok-extend_from_slice.ensures.items ∙ ap (λ (l : List ℕ). l ++ c.args.inside.now) (c.in_ok-push.ensures.items ∙ ap (λ (l : List ℕ). l ++ c.args.top ∷ []) c.new-touched.ensures.items) in
    let parents = λ (p : ℕ) (m : Contains (c.args.top ∷ c.args.inside.now) p) (ne : (entry_at es p).obj_type ≢ Stream). emptied-parent c.args.letters.now es c.args.top c.args.inside.now c.requires.storage c.requires.all p m ne in
    let listed = (rw (c.deref.ensures.value, touched) at c.in-Ok.ensures.ok) c.args.letters.now parents in
    rw c.deref-3.ensures.value (raw-in c.args.list.now.items child.number (emptied-number c.args.letters.now es c.args.top c.args.inside.now c.requires.storage c.requires.all c.in-Ok.children.items listed child (rw c.deref-4.ensures.value at m)))

pub returns-clause-covered : goal.returns-clause-covered
returns-clause-covered g c =
    let es = entries_of c.args.list.now.items in
    let new = c.clear_entries.new.list in
    let back : take c.args.list.now.len (new ++ drop (length new) c.args.list.now.items) ≡ new =
    written-back c.args.list.now.len new (drop (length new) c.args.list.now.items) (c.clear_entries.auto.list ∙ c.deref_mut.ensures.len) in
    let touched : c.deref-2.result.now ≡ c.args.top ∷ c.args.inside.now =
    c.deref-2.ensures.value ∙ c.in_ok-extend_from_slice.ensures.items ∙ ap (λ (l : List ℕ). l ++ c.args.inside.now) (c.in_ok-push.ensures.items ∙ ap (λ (l : List ℕ). l ++ c.args.top ∷ []) c.new-touched.ensures.items) in
    let parents = λ (p : ℕ) (m : Contains (c.args.top ∷ c.args.inside.now) p) (ne : (entry_at es p).obj_type ≢ Stream). emptied-parent c.args.letters.now es c.args.top c.args.inside.now c.requires.storage c.requires.all p m ne in
    let listed = (rw (c.deref.ensures.value, touched) at c.in-Ok.ensures.ok) c.args.letters.now parents in
    let did = rw c.deref_mut.ensures.value at c.clear_entries.ensures in
    let taken = rw (c.deref-3.ensures.value, c.deref-4.ensures.value) at c.take_entries.ensures.taken in
    let covers = covers-same c.args.letters.now es c.args.index.now c.reserve.new.self c.reserve.ensures.same c.requires.covers in
    rw back (emptied-covered c.args.letters.now es c.args.top c.args.inside.now c.requires.storage c.requires.all c.in-Ok.children.items listed (entries_of new) c.requires.short did c.reserve.new.self c.take_entries.new.index taken covers)

pub returns-clause-room : goal.returns-clause-room
returns-clause-room g c =
    omega (arith, c.in_ok-reserve.ensures.room, c.take_entries.ensures.room, ap length c.in_ok-extend_from_slice-2.ensures.items, length-append c.args.free.now.items c.args.inside.now, c.args.free.now.ok.0, c.extend_from_slice-2.new.self.ok.0)
