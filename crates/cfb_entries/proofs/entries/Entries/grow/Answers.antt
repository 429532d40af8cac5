use Rattle.std.proofs.Common.{◌≡◌, ◌≤◌, ◌+◌, ap, length, arith}
use Rattle.std.specs.Prelude.{vec_len}
use Rattle.cfb_codecs.specs.EntryModel.{entries_of}
use Rattle.cfb_siblings.proofs.Held.{entries-length}
use Rattle.cfb_format.specs.Full.{max_entries}
use Rattle.cfb_entries.specs.EntryList.{EntryList}
use Rattle.cfb_entries.specs.Slots.{with_numbers}
use Rattle.cfb_entries.proofs.Distinct.{with-length}
use Rattle.cfb_entries.proofs.FreeSlots.{free-grown}
use Rattle.cfb_entries.proofs.Covered.{grown-covered}
use Rattle.cfb_entries.proofs.Contents.{grown-in-order}
use Rattle.cfb_entries.proofs.entries.Entries.grow.Goals as goal

pub invariant_of-self : goal.invariant_of-self
invariant_of-self g c =
    let s = c.self.inside in
    let more = vec_len c.args.fresh in
    let es = entries_of s.list.items in
    let entries : es ≡ c.args.self.now.entries = ap (λ (e : EntryList). e.entries) c.self.view_is in
    let few : length es + more ≤ max_entries = omega (arith, c.requires.few, ap length entries) in
    let from : c.len.result ≡ length es = omega (arith, c.len.ensures, s.list.ok.0, entries-length s.list.items) in
    let listed : c.list_numbers.new.free.items ≡ with_numbers s.free.items (length es) more =
    rw (from, c.len-2.ensures) at c.list_numbers.ensures in
    rw (c.append_fresh.ensures, listed) (
      grown-in-order s.letters es more few c.self.invariant.0,
      free-grown es s.free.items more c.self.invariant.1,
      grown-covered s.letters es more s.index c.self.invariant.0 c.self.invariant.2,
      omega (arith, ap length listed, with-length more s.free.items (length es), c.requires.room, ap (λ (e : EntryList). e.room) c.self.view_is, c.self.invariant.3, s.free.ok.0, c.list_numbers.new.free.ok.0),
    )
