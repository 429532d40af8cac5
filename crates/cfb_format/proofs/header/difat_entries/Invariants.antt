use Rattle.std.proofs.Common.{◌≡◌, drop}
use Rattle.cfb_format.specs.Bytes.{words}
use Rattle.cfb_format.proofs.HeaderDifat.{Passed, filled}
use Rattle.cfb_format.proofs.header.difat_entries.Given as goal

abbrev pub invariant-loop-i : goal.invariant-loop-i
invariant-loop-i l = record { passed : Passed (words 109 (drop 76 l.bytes)) l.i; filled : l.entries ≡ filled (words 109 (drop 76 l.bytes)) l.i }
