use Rattle.std.proofs.Common.{◌≡◌, ◌++◌, List, ℕ, drop, flat_map, length}
use Rattle.std.specs.Io.KnownBytes.{Appends}
use Rattle.cfb_codecs.specs.EntryModel.{entries_of}
use Rattle.cfb_shown.specs.Along.{Deepens, Fits, told_along}
use Rattle.cfb_shown.specs.Lines.{line_in}
use Rattle.cfb_shown.specs.Trails.{IsTrail, level_room, path_room, paths_of}
use Rattle.cfb_shown.proofs.lines.write_below.Given as goal

abbrev pub invariant-loop-walked : goal.invariant-loop-walked
invariant-loop-walked g l = record {
  trail : IsTrail l.trail;
  deep : Deepens (length l.trail.ends.items) (drop l.walked-index l.list);
  room : Fits (entries_of l.entries) (path_room l.trail) (level_room l.trail) (paths_of l.trail) (drop l.walked-index l.list);
  text : List ℕ;
  written : Appends (g.W.Write.contents l.fn.out) (g.W.Write.contents l.out) text;
  lines : text ++ flat_map (line_in l.form) (told_along (entries_of l.entries) (paths_of l.trail) (drop l.walked-index l.list))
      ≡ flat_map (line_in l.form) (told_along (entries_of l.entries) (paths_of l.fn.trail) l.list);
}
