use Rattle.std.proofs.Common.{◌≡◌, ◌+◌, ◌-◌, ◌*◌, ◌++◌, length}
use Rattle.std.specs.Prelude.{IsTrue, flat_map, vec_len}
use Rattle.cfb_format.specs.Bytes.{words_per_sector}
use Rattle.cfb_format.specs.Fat.{difat_entries}
use Rattle.cfb_format.specs.Header.{header_difat_len}
use Rattle.cfb_alloc.specs.Alloc.{IsMeasured}
use Rattle.cfb_reading.proofs.DifatLemmas.{HasMet, Followed}
use Rattle.cfb_reading.proofs.difat.follow_difat.Given as goal

abbrev pub invariant-loop-buffer : goal.invariant-loop-buffer
invariant-loop-buffer g l = record {
  kept : l.sectors ≡ record l.initial.sectors { bytes = l.sectors.bytes; failures = l.sectors.failures };
  same : IsTrue g.F.ReadMedium.tells → l.sectors ≡ l.initial.sectors;
  met : HasMet l.initial.sectors l.trail.difat_sectors.items l.trail.met.items;
  count : vec_len l.trail.entries ≡ header_difat_len + vec_len l.trail.difat_sectors * (words_per_sector l.initial.sectors.version - 1);
  entries : IsTrue g.F.ReadMedium.tells → l.trail.entries.items
      ≡ l.header.initial_difat_entries ++ flat_map (difat_entries l.initial.sectors.version l.initial.sectors.bytes) l.trail.difat_sectors.items;
  followed : IsTrue g.F.ReadMedium.tells → IsMeasured l.initial.sectors
      → Followed l.validation l.initial.sectors.version l.initial.sectors.bytes l.header.first_difat_sector l.trail.difat_sectors.items l.trail.next;
}

abbrev pub decreases-loop-buffer : goal.decreases-loop-buffer
decreases-loop-buffer g l = l.num_sectors - length l.trail.difat_sectors.items
