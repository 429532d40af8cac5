use Rattle.cfb_format.specs.DirectoryEntry.{Entry, unallocated_entry}
use Rattle.cfb_siblings.proofs.Held.{changed}
use Rattle.cfb_entries.proofs.clearing.unuse_at.Goals as goal

pub returns : goal.returns
returns g c = changed c.args.list.now c.args.number c.index-list-number.result (λ (x : Entry). unallocated_entry) _ c.requires c.unuse.ensures
