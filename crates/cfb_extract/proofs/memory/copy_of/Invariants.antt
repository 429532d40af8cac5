use Rattle.std.proofs.Common.{◌≡◌, take}
use Rattle.cfb_extract.specs.Items.{texts}
use Rattle.cfb_extract.proofs.memory.copy_of.Given as goal

abbrev pub invariant-loop-name : goal.invariant-loop-name
invariant-loop-name g l = record {
  same : texts l.copy.items ≡ texts (take l.name-index l.place);
}
