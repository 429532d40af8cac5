use Rattle.std.proofs.Common.{refl}
use Rattle.cfb_format.specs.Bytes.{no_stream}
use Rattle.cfb_format.specs.DirectoryEntry.{Entry}
use Rattle.cfb_siblings.proofs.Held.{changed}
use Rattle.cfb_entries.proofs.clearing.leave_childless.Goals as goal

pub returns : goal.returns
returns g c = changed c.args.list.now c.args.number c.index-list-number.result (λ (x : Entry). record x { child = no_stream }) _ c.requires refl
