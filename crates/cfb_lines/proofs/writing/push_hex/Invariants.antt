use Rattle.std.proofs.Common.{◌≡◌, ◌++◌, flat_map, string_bytes, take}
use Rattle.cfb_lines.specs.Fields.{hex_pair}
use Rattle.cfb_lines.proofs.writing.push_hex.Given as goal

abbrev pub invariant-loop-byte : goal.invariant-loop-byte
invariant-loop-byte g l = string_bytes l.text ≡ string_bytes l.fn.text ++ flat_map hex_pair (take l.byte-index l.bytes)
