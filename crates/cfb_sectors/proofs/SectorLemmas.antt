-- Stretches of bytes, and sectors, that a change leaves alone.
use Rattle.std.proofs.Common.{refl, inl, inr, ◌≡◌, ◌≢◌, ℕ, ◌+◌, ◌<◌, ◌≤◌, List, length, subst, ◌∙◌, arith}
use Rattle.std.proofs.lemmas.Bool.{cases_lt}
use Rattle.cfb_format.specs.Bytes.{sector_len, sector_start, word_at}
use Rattle.cfb_format.specs.Medium.{ChangesOnlyBytes}
use Rattle.cfb_format.specs.declared.version.Version.{Version}
use Rattle.cfb_format.specs.declared.version.Version.TheVariants.{V3, V4}
use Rattle.cfb_sectors.specs.Words.{Apart, RangeStays}
use Rattle.cfb_sectors.specs.Sectors.{SectorStays}
use Rattle.cfb_sectors.proofs.WordLemmas.{word_stays}

pub Stays_apart : (at n from to : ℕ) (a b : List ℕ) → ChangesOnlyBytes at n a b → (at < to → at + n ≤ from) → RangeStays from to a b
Stays_apart at n from to a b change apart =
    record {
      no_shorter = change.no_shorter;
      each = λ i within low high.
          elim (cases_lt i at) [
            | inl below ↦ change.below i within below
            | inr above ↦ change.above i within (omega arith)
          ];
    }

pub Stays_refl : (from to : ℕ) (a : List ℕ) → RangeStays from to a a
Stays_refl from to a = record { no_shorter = omega arith; each = λ i _ _ _. refl }

pub Stays_trans : (from to : ℕ) (a b c : List ℕ) → RangeStays from to a b → RangeStays from to b c → RangeStays from to a c
Stays_trans from to a b c first second =
    let longer = first.no_shorter in
    record {
      no_shorter = omega (arith, second.no_shorter);
      each = λ i within low high. second.each i (omega arith) low high ∙ first.each i within low high;
    }

-- a sector apart from what changed
pub sector_apart : (v : Version) (at n i : ℕ) (a b : List ℕ) → ChangesOnlyBytes at n a b → Apart (sector_start v i) (sector_len v) at n → SectorStays v i a b
unfolding SectorStays
sector_apart V3 at n i a b change apart = Stays_apart at n _ _ a b change (omega arith)
sector_apart V4 at n i a b change apart = Stays_apart at n _ _ a b change (omega arith)

-- another sector than the one that was written in
pub other_sector : (v : Version) (sector i offset at n : ℕ) (a b : List ℕ) → at ≡ sector_start v sector + offset → ChangesOnlyBytes at n a b → offset + n ≤ sector_len v
    → i ≢ sector → SectorStays v i a b
unfolding SectorStays
other_sector V3 sector i offset at n a b there change fits other = Stays_apart at n _ _ a b change (omega arith)
other_sector V4 sector i offset at n a b there change fits other = Stays_apart at n _ _ a b change (omega arith)

-- the header comes before all sectors
pub after_header : (v : Version) (i at n : ℕ) (a b : List ℕ) → ChangesOnlyBytes at n a b → at + n ≤ 512 → SectorStays v i a b
unfolding SectorStays
after_header V3 i at n a b change fits = Stays_apart at n _ _ a b change (omega arith)
after_header V4 i at n a b change fits = Stays_apart at n _ _ a b change (omega arith)

pub SectorStays_refl : (v : Version) (i : ℕ) (a : List ℕ) → SectorStays v i a a
unfolding SectorStays
SectorStays_refl v i a = Stays_refl _ _ a

pub SectorStays_trans : (v : Version) (i : ℕ) (a b c : List ℕ) → SectorStays v i a b → SectorStays v i b c → SectorStays v i a c
unfolding SectorStays
SectorStays_trans v i a b c first second = Stays_trans _ _ a b c first second

-- the same, over one more step
pub SectorStays_next : (v w : Version) (i : ℕ) (a b c : List ℕ) → w ≡ v → SectorStays v i a b → SectorStays w i b c → SectorStays v i a c
SectorStays_next v w i a b c same first second =
    SectorStays_trans v i a b c first (let P : Version → Type 0 = λ u. SectorStays u i b c in subst P same second)

-- a word of a sector that stays
pub word_in_sector : (v : Version) (i offset : ℕ) (a b : List ℕ) → SectorStays v i a b → offset + 4 ≤ sector_len v → sector_start v i + offset + 4 ≤ length a
    → word_at b (sector_start v i + offset) ≡ word_at a (sector_start v i + offset)
unfolding SectorStays
word_in_sector V3 i offset a b stays inside within = word_stays _ _ _ a b stays (omega arith) (omega arith) within
word_in_sector V4 i offset a b stays inside within = word_stays _ _ _ a b stays (omega arith) (omega arith) within

pub ruleset sector_stays = (SectorStays_refl, SectorStays_trans, SectorStays_next)

-- a change of bytes that are the same
pub ChangesOnly_from : (at n : ℕ) (a a' b : List ℕ) → a ≡ a' → ChangesOnlyBytes at n a b → ChangesOnlyBytes at n a' b
ChangesOnly_from at n a a' b same change = subst (λ (xs : List ℕ). ChangesOnlyBytes at n xs b) same change
