-- What was read of a sector is what stands in the file.
use Rattle.std.proofs.Common.{◌≡◌, ◌<◌, ◌≤◌, ℕ, suc, ◌+◌, ◌*◌, ◌/◌, List, [], ◌∷◌, Bool, true, false, length, drop, get_or, get_or-take, refl, sym, ◌∙◌, ap, arith}
use Rattle.std.specs.Prelude.{◌&&◌, ◌==◌, not, nat_le, nat_lt, if◌then◌else◌}
use Rattle.std.proofs.lemmas.Bool.{leb-true, le-leb, lt-ltb, ltb-true}
use Rattle.std.proofs.lemmas.Bool.Decides.{same_from_decides}
use Rattle.std.proofs.lemmas.List.{get_or-drop}
use Rattle.cfb_format.specs.declared.version.Version.{Version}
use Rattle.cfb_format.specs.declared.version.Version.TheVariants.{V3, V4}
use Rattle.cfb_format.specs.Bytes.{byte_at, word_at, sector_start, entries_per_sector, words_per_sector}
use Rattle.cfb_format.proofs.HeaderStart.{u32-same}
use Rattle.cfb_mending.specs.Missing.{Holds, has_word, kind_at, len_at, mini_stream_len}

-- ---- tests

pub le-same : (a b c d : ℕ) → (a ≤ b → c ≤ d) → (c ≤ d → a ≤ b) → nat_le a b ≡ nat_le c d
le-same a b c d to back = same_from_decides {P = c ≤ d} (nat_le a b) (nat_le c d) (λ e. to (leb-true a b e), λ h. le-leb a b (back h)) (leb-true c d, le-leb c d)

pub and-same : (a b x y : Bool) → a ≡ b → (a ≡ true → x ≡ y) → (a && x) ≡ (b && y)
and-same true b x y e h = (λ j. true && h refl j) ∙ ap (λ (c : Bool). c && y) e
and-same false b x y e h = ap (λ (c : Bool). c && y) e

-- ---- what was read of a sector

module _ (size : ℕ) (version : Version) (bytes : List ℕ) (s : ℕ) (held : List ℕ) (len : ℕ) (h : Holds size version bytes s held len) where
  pub held-byte : (j : ℕ) → j < len → get_or held j 0 ≡ get_or bytes (sector_start version s + j) 0
  held-byte j l =
      sym (get_or-take len held j 0 l) ∙ ap (λ (x : List ℕ). get_or x j 0) h.same ∙ get_or-take len (drop (sector_start version s) bytes) j 0 l
      ∙ get_or-drop (sector_start version s) bytes j 0

  pub held-word : (j : ℕ) → j + 4 ≤ len → word_at held j ≡ word_at bytes (sector_start version s + j)
  unfolding word_at
  held-word j fits =
      u32-same (drop j held) (drop (sector_start version s + j) bytes) (λ i l.
      get_or-drop j held i 0 ∙ held-byte (j + i) (omega (arith, l, fits))
      ∙ ap (λ (n : ℕ). get_or bytes n 0) (let e : sector_start version s + (j + i) ≡ sector_start version s + j + i = omega arith in e)
      ∙ sym (get_or-drop (sector_start version s + j) bytes i 0))

pub most-words : (version : Version) → words_per_sector version ≤ 1024
most-words V3 = omega arith
most-words V4 = omega arith

pub word-has : (version : Version) (bytes : List ℕ) (s : ℕ) (held : List ℕ) (len k : ℕ) → Holds 4 version bytes s held len → k < words_per_sector version
    → nat_lt k (len / 4) ≡ has_word bytes (sector_start version s + 4 * k)
word-has V3 bytes s held len k h below =
    le-same (suc k) (len / 4) (sector_start V3 s + 4 * k + 4) (length bytes) (λ l. omega (arith, h.count, below, l)) (λ l. omega (arith, h.count, below, l))
word-has V4 bytes s held len k h below =
    le-same (suc k) (len / 4) (sector_start V4 s + 4 * k + 4) (length bytes) (λ l. omega (arith, h.count, below, l)) (λ l. omega (arith, h.count, below, l))

pub slot-has : (version : Version) (bytes : List ℕ) (s : ℕ) (held : List ℕ) (len k : ℕ) → Holds 128 version bytes s held len → k < entries_per_sector version
    → nat_lt k (len / 128) ≡ nat_le (sector_start version s + 128 * k + 128) (length bytes)
slot-has V3 bytes s held len k h below =
    le-same (suc k) (len / 128) (sector_start V3 s + 128 * k + 128) (length bytes) (λ l. omega (arith, h.count, below, l)) (λ l. omega (arith, h.count, below, l))
slot-has V4 bytes s held len k h below =
    le-same (suc k) (len / 128) (sector_start V4 s + 128 * k + 128) (length bytes) (λ l. omega (arith, h.count, below, l)) (λ l. omega (arith, h.count, below, l))

-- a test of a word that the file has
pub word-there : (p : ℕ → Bool) (version : Version) (bytes : List ℕ) (s : ℕ) (held : List ℕ) (len k : ℕ) → Holds 4 version bytes s held len → k < words_per_sector version
    → (nat_lt k (len / 4) && p (word_at held (4 * k))) ≡ (has_word bytes (sector_start version s + 4 * k) && p (word_at bytes (sector_start version s + 4 * k)))
word-there p version bytes s held len k h below =
    and-same (nat_lt k (len / 4)) (has_word bytes (sector_start version s + 4 * k)) _ _ (word-has version bytes s held len k h below)
    (λ e. ap p (held-word 4 version bytes s held len h (4 * k) (let l : k < len / 4 = ltb-true k (len / 4) e in omega (arith, l))))

if-same : (a b : Bool) (x y : ℕ) → a ≡ b → (a ≡ true → x ≡ y) → (if a then x else 0) ≡ (if b then y else 0)
if-same true b x y e h = h refl ∙ ap (λ (c : Bool). if c then y else 0) e
if-same false b x y e h = ap (λ (c : Bool). if c then y else 0) e

pub kind-there : (version : Version) (bytes : List ℕ) (s : ℕ) (held : List ℕ) (len k : ℕ) → Holds 128 version bytes s held len → k < entries_per_sector version
    → (if nat_lt k (len / 128) then byte_at held (128 * k + 66) else 0) ≡ kind_at bytes (sector_start version s + 128 * k)
kind-there version bytes s held len k h below =
    if-same (nat_lt k (len / 128)) (nat_le (sector_start version s + 128 * k + 128) (length bytes)) _ _ (slot-has version bytes s held len k h below)
    (λ e. held-byte 128 version bytes s held len h (128 * k + 66) (let l : k < len / 128 = ltb-true k (len / 128) e in omega (arith, l))
    ∙ ap (λ (n : ℕ). get_or bytes n 0) (let e : sector_start version s + (128 * k + 66) ≡ sector_start version s + 128 * k + 66 = omega arith in e))

len-there : (version : Version) (bytes : List ℕ) (s : ℕ) (held : List ℕ) (len : ℕ) → Holds 128 version bytes s held len → 128 ≤ len
    → len_at version held 0 ≡ len_at version bytes (sector_start version s)
len-there V3 bytes s held len h l = held-word 128 V3 bytes s held len h 120 (omega (arith, l))
len-there V4 bytes s held len h l = λ j.
    held-word 128 V4 bytes s held len h 120 (omega (arith, l)) j + 0x1_0000_0000 * held-word 128 V4 bytes s held len h 124 (omega (arith, l)) j

some-slots : (version : Version) → 0 < entries_per_sector version
some-slots V3 = omega arith
some-slots V4 = omega arith

pub first-len-there : (version : Version) (bytes : List ℕ) (s : ℕ) (held : List ℕ) (len : ℕ) → Holds 128 version bytes s held len
    → (if nat_lt 0 (len / 128) then len_at version held 0 else 0) ≡ (if nat_le (sector_start version s + 128) (length bytes) then len_at version bytes (sector_start version s) else 0)
first-len-there version bytes s held len h =
    if-same (nat_lt 0 (len / 128)) (nat_le (sector_start version s + 128) (length bytes)) _ _
    (slot-has version bytes s held len 0 h (some-slots version) ∙ ap (λ (n : ℕ). nat_le n (length bytes)) (let e : sector_start version s + 128 * 0 + 128 ≡ sector_start version s + 128 = omega arith in e))
    (λ e. len-there version bytes s held len h (let l : 0 < len / 128 = ltb-true 0 (len / 128) e in omega (arith, l)))

slot-of : (version : Version) (k : ℕ) → k < words_per_sector version → k / 32 < entries_per_sector version
slot-of V3 k below = omega (arith, below)
slot-of V4 k below = omega (arith, below)

not-zero : (a : Bool) (x : ℕ) → not ((if a then x else 0) == 0) ≡ true → a ≡ true
not-zero true x e = refl
not-zero false x e = absurd (let w : false ≡ true = e in cc)

-- a link of an entry that the file has
pub link-there : (p : ℕ → Bool) (a : Bool) (version : Version) (bytes : List ℕ) (s : ℕ) (held : List ℕ) (len k : ℕ) → Holds 128 version bytes s held len → k < words_per_sector version
    → (a && (not ((if nat_lt (k / 32) (len / 128) then byte_at held (128 * (k / 32) + 66) else 0) == 0) && p (word_at held (4 * k))))
    ≡ (a && (not (kind_at bytes (sector_start version s + 128 * (k / 32)) == 0) && p (word_at bytes (sector_start version s + 4 * k))))
link-there p a version bytes s held len k h below =
    ap (λ (b : Bool). a && b)
    (and-same (not ((if nat_lt (k / 32) (len / 128) then byte_at held (128 * (k / 32) + 66) else 0) == 0)) (not (kind_at bytes (sector_start version s + 128 * (k / 32)) == 0)) _ _
    (ap (λ (n : ℕ). not (n == 0)) (kind-there version bytes s held len (k / 32) h (slot-of version k below)))
    (λ e. ap p (held-word 128 version bytes s held len h (4 * k)
    (let l : k / 32 < len / 128 = ltb-true (k / 32) (len / 128) (not-zero (nat_lt (k / 32) (len / 128)) (byte_at held (128 * (k / 32) + 66)) e) in omega (arith, l)))))

pub most-slots : (version : Version) → entries_per_sector version ≤ 32
most-slots V3 = omega arith
most-slots V4 = omega arith

-- the length in the first slot, where there is a sector
pub len-of-none : (version : Version) (bytes directory : List ℕ) → length directory ≡ 0 → mini_stream_len version bytes directory ≡ 0
len-of-none version bytes directory e = λ j.
    if nat_lt 0 (e j) && nat_le (sector_start version (get_or directory 0 0) + 128) (length bytes) then len_at version bytes (sector_start version (get_or directory 0 0)) else 0

pub len-of-some : (version : Version) (bytes directory : List ℕ) (d : ℕ) → (length directory ≡ 0 → ⊥)
    → mini_stream_len version bytes directory ≡ (if nat_le (sector_start version (get_or directory 0 d) + 128) (length bytes) then len_at version bytes (sector_start version (get_or directory 0 d)) else 0)
len-of-some version bytes [] d some = absurd (some refl)
len-of-some version bytes (s ∷ rest) d some = λ j.
    if lt-ltb 0 (length (s ∷ rest)) (let l : 0 < suc (length rest) = omega arith in l) j && nat_le (sector_start version s + 128) (length bytes) then len_at version bytes (sector_start version s) else 0
