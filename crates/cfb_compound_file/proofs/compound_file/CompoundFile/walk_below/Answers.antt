use Rattle.cfb_path_changes.proofs.Numbers.{object-within}
use Rattle.cfb_compound_file.proofs.Numbers.{object-in-list}
use Rattle.cfb_compound_file.proofs.compound_file.CompoundFile.walk_below.Goals as goal

pub name_of-requires : goal.name_of-requires
name_of-requires g c =
    object-within c.args.self.now c.entries-entries.result.now c.args.number (rw c.self.view_is at c.entries-entries.ensures.entries) (rw c.self.view_is at c.entries-entries.ensures.in_order) c.requires

pub walk_from-requires : goal.walk_from-requires
walk_from-requires g c =
    object-in-list c.args.self.now c.entries-entries.result.now c.args.number (rw c.self.view_is at c.entries-entries.ensures.entries) (rw c.self.view_is at c.entries-entries.ensures.in_order) c.requires
