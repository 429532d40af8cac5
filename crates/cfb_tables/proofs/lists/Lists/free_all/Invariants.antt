use Rattle.std.proofs.Common.{◌≡◌, ◌++◌, take}
use Rattle.cfb_tables.specs.Tables.{wiped}
use Rattle.cfb_tables.proofs.lists.Lists.free_all.Given as goal

abbrev pub invariant-loop-sector : goal.invariant-loop-sector
invariant-loop-sector g l = record {
  freed : l.self ≡ record l.initial.self {
    free = l.initial.self.free ++ take l.sector-index l.list;
    state = record l.initial.self.state { fat = wiped l.initial.self.state.fat (take l.sector-index l.list) };
  };
}
