-- The words of a sector.
use Rattle.std.proofs.Common.{◌≡◌, ℕ, zero, suc, ◌+◌, ◌*◌, ◌<◌, ◌≤◌, List, true, refl, ◌∙◌, ap, length, arith, drop, get_or}
use Rattle.std.specs.Int.{from_le_bytes, w32}
use Rattle.std.proofs.lemmas.List.{drop-drop}
use Rattle.std.proofs.lemmas.Bool.{leb-true}
use Rattle.cfb_format.specs.declared.version.Version.{Version}
use Rattle.cfb_format.specs.declared.version.Version.TheVariants.{V3, V4}
use Rattle.cfb_format.specs.Bytes.{word_at, words, sector_len, words_per_sector, sector_start, sector_words, sector_count, is_whole_sector}

pub words-length : (k : ℕ) (bytes : List ℕ) → length (words k bytes) ≡ k
unfolding words
words-length zero bytes = refl
words-length (suc k) bytes = ap suc (words-length k (drop 4 bytes))

pub words-at : (k : ℕ) (bytes : List ℕ) (j : ℕ) → j < k → get_or (words k bytes) j 0 ≡ from_le_bytes w32 (drop (4 * j) bytes)
unfolding words
words-at zero bytes j l = absurd (omega arith)
words-at (suc k) bytes zero l = refl
words-at (suc k) bytes (suc j) l =
    words-at k (drop 4 bytes) j (omega arith) ∙ ap (from_le_bytes w32) (drop-drop (4 * j) 4 bytes)
    ∙ ap (λ n. from_le_bytes w32 (drop n bytes)) (let e : 4 + 4 * j ≡ 4 * suc j = omega arith in e)

pub sector_words-length : (v : Version) (bytes : List ℕ) (i : ℕ) → length (sector_words v bytes i) ≡ words_per_sector v
sector_words-length v bytes i = words-length (words_per_sector v) (drop (sector_start v i) bytes)

pub sector_words-at : (v : Version) (bytes : List ℕ) (i j : ℕ) → j < words_per_sector v → get_or (sector_words v bytes i) j 0 ≡ word_at bytes (sector_start v i + 4 * j)
unfolding word_at
sector_words-at v bytes i j l =
    words-at (words_per_sector v) (drop (sector_start v i) bytes) j l ∙ ap (from_le_bytes w32) (drop-drop (4 * j) (sector_start v i) bytes)

pub four-words : (v : Version) → 4 * words_per_sector v ≡ sector_len v
four-words V3 = refl
four-words V4 = refl

pub whole-end : (v : Version) (bytes : List ℕ) (i : ℕ) → is_whole_sector v bytes i ≡ true → sector_start v i + sector_len v ≤ length bytes
whole-end v bytes i e = leb-true (sector_start v i + sector_len v) (length bytes) e

-- a whole sector is one of the file's
pub whole-below : (v : Version) (bytes : List ℕ) (i : ℕ) → is_whole_sector v bytes i ≡ true → i < sector_count v bytes
whole-below V3 bytes i e = let h : (i + 1) * 512 + 512 ≤ length bytes = whole-end V3 bytes i e in omega arith
whole-below V4 bytes i e = let h : (i + 1) * 4096 + 4096 ≤ length bytes = whole-end V4 bytes i e in omega arith
