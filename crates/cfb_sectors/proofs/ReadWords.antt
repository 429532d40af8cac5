-- The words of a sector, as they are read out of its bytes.
use Rattle.std.proofs.Common.{◌≡◌, ◌≤◌, ◌<◌, ◌+◌, ◌*◌, ℕ, zero, suc, List, refl, sym, ◌∙◌, ap, length, drop, arith, drop-drop, get_or-take, add-zero}
use Rattle.std.specs.Prelude.{slice_index, slice_index_or}
use Rattle.std.specs.Int.{from_le_bytes, w32}
use Rattle.cfb_format.specs.declared.version.Version.{Version}
use Rattle.cfb_format.specs.declared.version.Version.TheVariants.{V3, V4}
use Rattle.cfb_format.specs.Bytes.{word_at, words, sector_words, sector_len, sector_start, words_per_sector}
use Rattle.cfb_sectors.proofs.WordLemmas.{word_same}
use Rattle.cfb_format.specs.Medium.{part}
use Rattle.std.proofs.lemmas.Grind.{same_number_lists}
use Rattle.cfb_format.proofs.Words.{words-length}

-- ---- a word by its number

pub words-at : (k : ℕ) (bytes : List ℕ) (i d : ℕ) → i < k → slice_index_or (words k bytes) i d ≡ from_le_bytes w32 (drop (4 * i) bytes)
unfolding words
words-at zero bytes i d lt = absurd (omega arith)
words-at (suc k) bytes zero d lt = refl
words-at (suc k) bytes (suc i) d lt =
    let e : 4 + 4 * i ≡ 4 * suc i = omega arith in
    words-at k (drop 4 bytes) i d (omega arith) ∙ ap (from_le_bytes w32) (drop-drop (4 * i) 4 bytes) ∙ ap (λ n. from_le_bytes w32 (drop n bytes)) e

-- words, one by one
pub words_each : (bytes ws : List ℕ) → ((k : ℕ) → k < length ws → slice_index ws k ≡ word_at bytes (4 * k)) → ws ≡ words (length ws) bytes
unfolding word_at
words_each bytes ws each = same_number_lists ws _ (sym (words-length (length ws) bytes)) (λ i low. each i low ∙ sym (words-at (length ws) bytes i 0 low))

-- the words of a part that was read are those that stand from there on
pub words_of_part : (k : ℕ) (bytes : List ℕ) (at n : ℕ) → 4 * k ≤ n → words k (part bytes at n) ≡ words k (drop at bytes)
unfolding word_at
words_of_part k bytes at n fits =
    same_number_lists _ _ (words-length k (part bytes at n) ∙ sym (words-length k (drop at bytes)))
    (λ i low.
    let below : i < k = omega (arith, low, words-length k (part bytes at n)) in
    words-at k (part bytes at n) i 0 below
    ∙ word_same (drop at bytes) (part bytes at n) (4 * i) (λ j small. get_or-take n (drop at bytes) (4 * i + j) 0 (omega arith))
    ∙ sym (words-at k (drop at bytes) i 0 below))

pub sector_len_fits : (v : Version) → sector_len v ≤ 4096
sector_len_fits V3 = omega arith
sector_len_fits V4 = omega arith

pub words_fit : (v : Version) → 4 * words_per_sector v ≤ sector_len v
words_fit V3 = omega arith
words_fit V4 = omega arith

-- the words of a sector, out of bytes that were read from its start on
pub sector_words_read : (v : Version) (bytes : List ℕ) (sector k n : ℕ) (read got : List ℕ) → k ≡ words_per_sector v → sector_len v ≤ n
    → got ≡ words k read → read ≡ part bytes (sector_start v sector + 0) n → got ≡ sector_words v bytes sector
sector_words_read v bytes sector k n read got count fits put part_is =
    put ∙ ap (λ (xs : List ℕ). words k xs) part_is
    ∙ words_of_part k bytes (sector_start v sector + 0) n (omega (arith, count, fits, words_fit v))
    ∙ ap (λ at. words k (drop at bytes)) (add-zero (sector_start v sector))
    ∙ ap (λ m. words m (drop (sector_start v sector) bytes)) count
