use Rattle.std.proofs.Common.{◌≡◌, ◌++◌, ℕ, List}
use Rattle.cfb_format.specs.Bytes.{sector_start}
use Rattle.cfb_mending.specs.Missing.{Holds, kinds_from}
use Rattle.cfb_mending.proofs.scan.push_kinds.Given as goal

abbrev pub invariant-loop-slot : goal.invariant-loop-slot
invariant-loop-slot g l =
    (bytes : List ℕ) (s : ℕ) → Holds 128 l.fn.version bytes s l.loaded.bytes l.loaded.len → l.kinds.items ≡ l.fn.kinds.items ++ kinds_from bytes (sector_start l.fn.version s) l.slot
