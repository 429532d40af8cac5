use Rattle.std.proofs.Common.{◌≡◌, ◌+◌, ◌*◌, ◌++◌, take, drop}
use Rattle.cfb_format.specs.Bytes.{unit_bytes}
use Rattle.cfb_format.proofs.bytes.put_units.Given as goal

abbrev pub invariant-loop-unit : goal.invariant-loop-unit
invariant-loop-unit l = record {
  end : l.end ≡ l.at + 2 * l.unit-index;
  before : take l.end l.into ≡ take l.at l.fn.into ++ unit_bytes (take l.unit-index l.units);
  after : drop l.end l.into ≡ drop l.end l.fn.into;
}
