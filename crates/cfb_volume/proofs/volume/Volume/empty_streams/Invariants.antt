use Rattle.std.proofs.Common.{◌≡◌, false, take}
use Rattle.cfb_volume.specs.Clearing.{EmptiesStreams}
use Rattle.cfb_volume.proofs.volume.Volume.empty_streams.Given as goal

abbrev pub invariant-loop-entry : goal.invariant-loop-entry
invariant-loop-entry g l = record {
  emptied : EmptiesStreams g.F.ReadMedium.tells l.list (take l.entry-index l.list) l.fn.self l.self;
  first : l.some ≡ false → l.self ≡ l.fn.self;
}
