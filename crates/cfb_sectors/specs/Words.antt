-- Words and stretches of bytes under writes.
use Rattle.std.specs.Prelude.{◌≡◌, ℕ, ◌+◌, ◌<◌, ◌≤◌, List, length, slice_index}
use Rattle.std.specs.Int.{to_le_bytes, w32}
use Rattle.cfb_format.specs.Bytes.{word_at}
use Rattle.cfb_format.specs.Medium.{written}

-- m bytes from p on, and n bytes from at on, have none in common
abbrev pub Apart : ℕ → ℕ → ℕ → ℕ → Type 0
Apart p m at n = at < p + m → at + n ≤ p

-- the bytes after a word is written at a place
unfoldable pub with_word : List ℕ → ℕ → ℕ → List ℕ
with_word bytes at value = written bytes at (to_le_bytes w32 value)

-- every word that lies apart from n bytes at a place is as before
abbrev pub OtherWordsStay : ℕ → ℕ → List ℕ → List ℕ → Type 0
OtherWordsStay at n old new = (p : ℕ) → p + 4 ≤ length old → Apart p 4 at n → word_at new p ≡ word_at old p

-- what stood between two places is as before, and no byte is lost
pub record RangeStays (from to : ℕ) (old new : List ℕ) : Type 0 where
  pub no_shorter : length old ≤ length new
  pub each : (i : ℕ) → i < length old → from ≤ i → i < to → slice_index new i ≡ slice_index old i
