use Rattle.std.proofs.Common.{ap, get_or}
use Rattle.cfb_format.specs.DirectoryEntry.{Entry}
use Rattle.cfb_codecs.specs.EntryModel.{entry_of}
use Rattle.cfb_siblings.proofs.Held.{changed}
use Rattle.cfb_siblings.specs.Painted.{color_if_red}
use Rattle.cfb_siblings.proofs.links.join.Goals as goal

pub returns : goal.returns
returns g c = changed c.args.entries.now c.args.n c.index-entries-n.result (λ (x : Entry). record x { left_sibling = c.args.left; right_sibling = c.args.right; color = color_if_red c.args.red }) _ c.requires (ap (λ col. record (entry_of (get_or c.args.entries.now c.args.n c.index-entries-n.result)) { left_sibling = c.args.left; right_sibling = c.args.right; color = col }) c.color_if-entry.ensures)
