-- Coverage and room, by what is known.
use Rattle.std.proofs.Common.{◌≡◌, ◌<◌, ◌≤◌, ◌*◌, ◌/◌, min, ℕ, List, length, refl, sym, ◌∙◌, ap, subst, arith}
use Rattle.cfb_format.specs.declared.version.Version.{Version}
use Rattle.cfb_format.specs.Bytes.{sector_count, sector_len, words_per_sector}
use Rattle.cfb_format.specs.Content.{mini_sector_len}
use Rattle.cfb_format.specs.Names.{Cases}
use Rattle.cfb_format.specs.Reading.{Reading, Reads}
use Rattle.cfb_format.specs.Soundness.{mini_stream_sectors}
use Rattle.cfb_soundness.proofs.Decision.{known as known-of}
use Rattle.cfb_flaws.specs.declared.flaw.Flaw.TheVariants.{TooFewWords, TooLittleRoom}
use Rattle.cfb_flaws.specs.declared.known.Known.{Known}
use Rattle.cfb_flaws.specs.Flaws.{Covers, HasRoom, Holds}
use Rattle.cfb_flaws.specs.Telling.{KnowsFile}
use Rattle.cfb_flaws.proofs.Counting.{count-few, enough-room, enough-words, few-words, little-room, most_words}

module _ {A : Type 0} (known : Known A) (cases : Cases) (bytes : List ℕ) (r : Reading) (reads : Reads cases bytes r) (knows : KnowsFile known bytes r) where
  version-of : Version
  version-of = known.parts.now.version

  count-is : length known.parts.now.fat.now ≡ sector_count r.header.version bytes
  count-is = ap length knows.parts.fat ∙ (known-of cases bytes r reads).count

  pub few-sectors : length known.parts.now.fat.now ≤ most_words
  few-sectors = let e = count-is in let f = count-few r.header.version bytes reads.len in omega (arith, e, f)

  module _ (per words : ℕ) (e : per ≡ words_per_sector known.parts.now.version) (w : words ≡ min (length known.parts.now.fat_sectors.now * per) most_words) where
    pub covers-all : length known.parts.now.fat.now ≤ words → Covers bytes r
    covers-all le =
        let enough = enough-words known.parts.now.version (length known.parts.now.fat_sectors.now) per words (length known.parts.now.fat.now) e w le in
        let there : sector_count r.header.version bytes ≤ length known.parts.now.fat_sectors.now * words_per_sector known.parts.now.version = let c = count-is in omega (arith, enough, c) in
        subst (λ (p : List ℕ × Version). sector_count r.header.version bytes ≤ length p.0 * words_per_sector p.1) (λ i. (knows.parts.fat_sectors i, knows.parts.version i)) there

    pub covers-few : words < length known.parts.now.fat.now → Holds bytes r (TooFewWords words (length known.parts.now.fat.now))
    covers-few lt = (
      few-words known.parts.now.version (length known.parts.now.fat_sectors.now) per words (length known.parts.now.fat.now) e w lt few-sectors
          ∙ (λ i. length (knows.parts.fat_sectors i) * words_per_sector (knows.parts.version i)),
      count-is,
      lt,
    )

  module _ (per room : ℕ) (e : per ≡ sector_len known.parts.now.version / 64) (w : room ≡ min (length known.root.items * per) most_words) where
    pub has-room : length known.parts.now.minifat.now ≤ room → HasRoom r
    has-room le = subst (λ (p : List ℕ × List ℕ × Version). length p.0 * mini_sector_len ≤ length p.1 * sector_len p.2)
        (λ i. (knows.parts.minifat i, knows.root i, knows.parts.version i))
        (enough-room known.parts.now.version (length known.root.items) per room (length known.parts.now.minifat.now) e w le)

    pub little-left : room < length known.parts.now.minifat.now → length known.parts.now.minifat.now ≤ most_words → Holds bytes r (TooLittleRoom room (length known.parts.now.minifat.now))
    little-left lt few = (
      little-room known.parts.now.version (length known.root.items) per room (length known.parts.now.minifat.now) e w lt few
          ∙ (λ i. length (knows.root i) * sector_len (knows.parts.version i)),
      ap length knows.parts.minifat,
      lt,
    )
