use Rattle.std.proofs.Common.{refl}
use Rattle.cfb_rules.specs.Calls.{walk}
use Rattle.cfb_compound_file.proofs.Numbers.{object-in-list, root-is-object}
use Rattle.cfb_tool.proofs.Listed.{not-listed}
use Rattle.cfb_tool.proofs.listing.table.Goals as goal

pub write_table-requires : goal.write_table-requires
write_table-requires g c = object-in-list c.args.file.now c.entries.result.now 0 c.entries.ensures.entries c.entries.ensures.in_order (root-is-object c.args.file.now)

pub returns : goal.returns
returns g c = record { refused = λ told. not-listed c.write_table.result c.args.file.now walk _ _ refl c.write_table.ensures.refused }
