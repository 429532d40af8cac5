use Rattle.std.proofs.Common.{◌≡◌, ◌≤◌, ℕ, drop, length, take}
use Rattle.cfb_codecs.specs.EntryModel.{entries_of}
use Rattle.cfb_shown.specs.Along.{Deepens, Fits}
use Rattle.cfb_shown.specs.Trails.{IsTrail, level_room, path_room, paths_of}
use Rattle.cfb_shown.proofs.lines.take_room.Given as goal

abbrev pub invariant-loop-walked : goal.invariant-loop-walked
invariant-loop-walked g l = record {
  trail : IsTrail l.trail;
  deep : Deepens (length l.trail.ends.items) (drop l.walked-index l.list);
  room : (bytes levels : ℕ) → path_room l.trail ≤ bytes → level_room l.trail ≤ levels
      → Fits (entries_of l.entries) bytes levels (paths_of l.trail) (drop l.walked-index l.list) → Fits (entries_of l.entries) bytes levels (paths_of l.fn.trail) l.list;
  first : take 1 (paths_of l.trail) ≡ take 1 (paths_of l.fn.trail);
}
