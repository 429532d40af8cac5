-- The kept words make up the file's FAT.
use Rattle.std.proofs.Common.{◌≡◌, ℕ, List, sym, ◌∙◌, ap, subst, take}
use Rattle.cfb_format.specs.Bytes.{sector_count}
use Rattle.cfb_format.specs.Fat.{fat_words, raw_fat}
use Rattle.cfb_reading.specs.cfb_tables.ReadFat.{AcceptsFat}
use Rattle.cfb_reading.proofs.cfb_tables.FatLaws.{read_sound, read_complete}
use Rattle.cfb_reading.proofs.cfb_tables.WordLemmas.{padding-is-apart}
use Rattle.cfb_reading.specs.FatWords.{KeptWordsMakeTheFat, FatsWordsAreKept, KeptWordsPointIntoFile, PointsInto}

pub make-the-fat : KeptWordsMakeTheFat
make-the-fat validation version bytes list own fat kept n count a =
    let words = fat_words version bytes list in
    let apart = padding-is-apart validation n words list own fat in (
      (λ accepted. read_sound validation version bytes list own fat words n count (λ _. words)
          (apart.1 (subst (λ (ws : List ℕ). AcceptsFat validation n ws list own fat) a.first accepted) a.padding)),
      (λ is strict. subst (λ (ws : List ℕ). AcceptsFat validation n ws list own fat) (sym a.first)
          (apart.0 (read_complete validation version bytes list own fat words n count (λ _. words) is strict)).0),
    )

pub words-are-kept : FatsWordsAreKept
words-are-kept validation version bytes list own fat n count whole is strict = record {
  whole = whole;
  first = ap (λ k. take k (fat_words version bytes list)) count;
  padding = (read_complete validation version bytes list own fat (fat_words version bytes list) n count (λ _. fat_words version bytes list) is strict).padding;
}

pub point-into-file : KeptWordsPointIntoFile
point-into-file validation bytes kept r n count a =
    let raw : kept ≡ raw_fat r.header.version bytes r.fat_sectors = a.first ∙ ap (λ k. take k (fat_words r.header.version bytes r.fat_sectors)) (sym count) in (
      (λ p. subst (λ (ws : List ℕ). PointsInto (sector_count r.header.version bytes) ws r.fat_sectors r.difat_sectors) raw
          (subst (λ k. PointsInto k kept r.fat_sectors r.difat_sectors) (sym count) p)),
      (λ p. subst (λ k. PointsInto k kept r.fat_sectors r.difat_sectors) count
          (subst (λ (ws : List ℕ). PointsInto (sector_count r.header.version bytes) ws r.fat_sectors r.difat_sectors) (sym raw) p)),
    )
