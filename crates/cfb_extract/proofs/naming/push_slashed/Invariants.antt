use Rattle.std.proofs.Common.{◌≡◌, ◌++◌, take}
use Rattle.std.specs.Prelude.{string_bytes}
use Rattle.std.specs.Str.{chars}
use Rattle.cfb_extract.specs.Items.{texts}
use Rattle.cfb_extract.specs.Extracted.{slashed}
use Rattle.cfb_extract.proofs.naming.push_slashed.Given as goal

abbrev pub invariant-loop-name : goal.invariant-loop-name
invariant-loop-name g l = chars (string_bytes l.into) ≡ chars (string_bytes l.fn.into) ++ slashed (texts (take l.name-index l.names))
