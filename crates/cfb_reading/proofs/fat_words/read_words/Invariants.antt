use Rattle.std.proofs.Common.{◌≡◌, ◌≤◌, true, take}
use Rattle.std.specs.Prelude.{IsTrue, vec_len}
use Rattle.std.specs.List.{list_all}
use Rattle.cfb_format.specs.Fat.{fat_words}
use Rattle.cfb_reading.specs.Difat.{has_sector}
use Rattle.cfb_reading.specs.FatWords.{ArePadding, AreThere}
use Rattle.cfb_reading.proofs.FatWordLemmas.{KeepsWords}
use Rattle.cfb_reading.proofs.fat_words.read_words.Given as goal

abbrev pub invariant-loop-sector : goal.invariant-loop-sector
invariant-loop-sector g l = record {
  kept : l.sectors ≡ record l.initial.sectors { bytes = l.sectors.bytes; failures = l.sectors.failures };
  same : IsTrue g.F.ReadMedium.tells → l.sectors ≡ l.initial.sectors;
  len : vec_len l.taking.checked ≡ l.initial.sectors.num_sectors;
  few : vec_len l.taking.words ≤ vec_len l.taking.checked;
  there : list_all (has_sector l.initial.sectors) (take l.sector-index l.fat_sectors) ≡ true;
  checked : AreThere l.initial.sectors l.taking.checked.items;
  words : IsTrue g.F.ReadMedium.tells → KeepsWords l.validation l.initial.sectors.num_sectors
      (fat_words l.initial.sectors.version l.initial.sectors.bytes (take l.sector-index l.fat_sectors)) l.taking.words.items;
  padding : IsTrue g.F.ReadMedium.tells → ArePadding l.validation l.initial.sectors l.taking.checked.items;
}
