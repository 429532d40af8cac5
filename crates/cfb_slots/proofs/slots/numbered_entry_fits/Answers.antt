use Rattle.std.proofs.Common.{sym, subst}
use Rattle.cfb_format.specs.DirectoryEntry.{Entry, EntryFits}
use Rattle.cfb_slots.proofs.SlotWrites.{kept_entry}
use Rattle.cfb_slots.proofs.slots.numbered_entry_fits.Goals as goal

pub returns : goal.returns
returns g c =
    subst (λ (e : Entry). EntryFits e) (sym (kept_entry c.args.entries.now c.args.number c.index-entries-number.result c.requires c.index-entries-number.is)) c.entry_fits.ensures
