use Rattle.std.proofs.Common.{◌≡◌, ◌∙◌, ap, sym, length}
use Rattle.std.specs.Prelude.{not, nat_eq, vec_len}
use Rattle.cfb_entries.specs.EntryList.{EntryList, has_free}
use Rattle.cfb_codecs.specs.EntryModel.{entries_of}
use Rattle.cfb_entries.proofs.FreeSlots.{full-is}
use Rattle.cfb_entries.proofs.entries.Entries.is_full.Goals as goal

pub returns : goal.returns
returns g c =
    let s = c.self.inside in
    let len : length s.free.items ≡ vec_len s.free = sym s.free.ok.0 in
    c.is_empty.ensures ∙ (ap (λ n. nat_eq n 0) (sym len) ∙ (full-is (entries_of s.list.items) s.free.items c.self.invariant.1 ∙ ap (λ (e : EntryList). not (has_free e.entries)) c.self.view_is))
