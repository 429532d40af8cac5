use Rattle.std.proofs.Common.{drop, length}
use Rattle.cfb_codecs.specs.EntryModel.{entries_of}
use Rattle.cfb_shown.specs.Along.{Deepens, Fits}
use Rattle.cfb_shown.specs.Trails.{IsTrail, level_room, path_room, paths_of}
use Rattle.cfb_shown.proofs.table.write_rows.Given as goal

abbrev pub invariant-loop-walked : goal.invariant-loop-walked
invariant-loop-walked g l = record {
  trail : IsTrail l.trail;
  deep : Deepens (length l.trail.ends.items) (drop l.walked-index l.list);
  room : Fits (entries_of l.entries) (path_room l.trail) (level_room l.trail) (paths_of l.trail) (drop l.walked-index l.list);
}
