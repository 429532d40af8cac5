use Rattle.std.proofs.Common.{◌≡◌, List, ap, sym, get_or}
use Rattle.std.proofs.lemmas.List.{get_or-map}
use Rattle.cfb_format.specs.DirectoryEntry.{Entry, unallocated_entry}
use Rattle.cfb_codecs.specs.EntryModel.{entry_of}
use Rattle.cfb_format.specs.Siblings.{entry_at}
use Rattle.cfb_siblings.proofs.Held.{moved-entry}
use Rattle.cfb_codecs.specs.EntryModel.{entries_of}
use Rattle.cfb_siblings.proofs.links.vacate.Goals as goal

pub returns : goal.returns
returns g c =
    let es : List Entry = entries_of c.args.entries.now in
    let l : (c.links-left.result.0 ≡ (entry_at es c.args.n).left_sibling) × (c.links-left.result.1 ≡ (entry_at es c.args.n).right_sibling) = (ap (λ p. p.0) c.links-left.ensures, ap (λ p. p.1) c.links-left.ensures) in
    let col : (get_or c.args.entries.now c.args.n c.index-entries-n.result).color ≡ (entry_at es c.args.n).color = ap (λ (x : Entry). x.color) (sym (get_or-map entry_of c.args.entries.now c.args.n c.index-entries-n.result unallocated_entry c.requires.n_in)) in
    moved-entry c.args.entries.now c.swap.new.self c.args.n c.args.m c.index-entries-n-2.result _ c.clear.new.entry c.requires.n_in c.requires.m_in c.swap.ensures.after
    (λ i. record (entry_of (get_or c.swap.new.self c.args.n c.index-entries-n-2.result)) { left_sibling = l.0 i; right_sibling = l.1 i; color = col i })
    c.clear.ensures
