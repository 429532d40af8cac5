use Rattle.std.proofs.Common.{rules}
use Rattle.cfb_resizing.proofs.TurnedInMinis.{known-minis, no-minis}
use Rattle.cfb_resizing.proofs.in_place.has_minis.Goals as goal

pub returns-in_default : goal.returns-in_default
returns-in_default g c = no-minis c.args.mini.now c.args.ids.now c.is_empty.result c.in_default.ensures (search rules) (search rules)

pub returns : goal.returns
returns g c = known-minis c.args.mini.now c.allocator.result.now c.in-Some.stream.now c.args.ids.now c.are_known_minis.result c.allocator.ensures c.in-Some.ensures c.are_known_minis.ensures
