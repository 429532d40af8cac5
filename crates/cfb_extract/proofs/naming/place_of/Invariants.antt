use Rattle.std.proofs.Common.{◌≡◌, take}
use Rattle.cfb_extract.specs.Items.{texts}
use Rattle.cfb_extract.specs.Extracted.{place_of}
use Rattle.cfb_extract.proofs.naming.place_of.Given as goal

abbrev pub invariant-loop-name : goal.invariant-loop-name
invariant-loop-name g l = record {
  named : texts l.place.items ≡ place_of (texts (take l.name-index l.names));
}
