use Rattle.std.proofs.Common.{◌≡◌, ap}
use Rattle.std.specs.Str.{chars}
use Rattle.std.specs.Prelude.{string_bytes, []}
use Rattle.cfb_format.specs.DirectoryEntry.{unallocated_entry}
use Rattle.cfb_entries.proofs.clearing.unuse.Goals as goal

pub returns : goal.returns
unfolding chars
returns g c =
    let name : chars (string_bytes c.clear.new.self) ≡ [] = ap chars c.clear.ensures.bytes in
    (λ i. record unallocated_entry { name = name i; clsid = c.nil-entry.ensures i; creation_time = c.zero-entry.ensures i; modified_time = c.zero-entry-2.ensures i })
