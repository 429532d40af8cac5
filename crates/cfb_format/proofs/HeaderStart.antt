-- A header is read off the first 512 bytes alone.
use Rattle.std.proofs.Common.{◌≡◌, ◌+◌, ◌*◌, ◌<◌, ◌≤◌, ℕ, zero, suc, List, ◌∷◌, refl, sym, ◌∙◌, ap, arith, take, drop, get_or-take, get_or-drop, lit≤}
use Rattle.std.specs.Prelude.{◌↔◌, slice_index}
use Rattle.std.specs.List.{list_all}
use Rattle.std.specs.Int.{from_le_bytes, w16, w32, byte_worth}
use Rattle.std.proofs.lemmas.List.{take-take}
use Rattle.cfb_format.specs.declared.header.Header.{Header}
use Rattle.cfb_format.specs.declared.version.Version.{Version}
use Rattle.cfb_format.specs.declared.version.Version.TheVariants.{V3, V4}
use Rattle.cfb_format.specs.declared.validate.Validation.{Validation}
use Rattle.cfb_format.specs.declared.validate.Validation.TheVariants.{Permissive, Strict}
use Rattle.cfb_format.specs.Bytes.{unit_at, word_at, words, is_regular}
use Rattle.cfb_format.specs.Header.{AcceptsHeader, IsStrictHeader, IfStrict, dir_sectors_of, first_difat_of, padded_difat, entries_before_free, stored_difat}

-- ---- numbers whose bytes are the same

abbrev two : ℕ → ℕ → ℕ
two a b = byte_worth 0 a + byte_worth 1 b

abbrev four : ℕ → ℕ → ℕ → ℕ → ℕ
four a b c d = byte_worth 0 a + byte_worth 1 b + byte_worth 2 c + byte_worth 3 d

-- the lists have the same elements from a place on, as far as k of them
abbrev Same : ℕ → List ℕ → List ℕ → Type 0
Same k xs ys = (i : ℕ) → i < k → slice_index xs i ≡ slice_index ys i

pub u16-same : (xs ys : List ℕ) → Same 2 xs ys → from_le_bytes w16 xs ≡ from_le_bytes w16 ys
u16-same xs ys h = λ j. two (h 0 (omega arith) j) (h 1 (omega arith) j)

pub u32-same : (xs ys : List ℕ) → Same 4 xs ys → from_le_bytes w32 xs ≡ from_le_bytes w32 ys
u32-same xs ys h = λ j. four (h 0 (omega arith) j) (h 1 (omega arith) j) (h 2 (omega arith) j) (h 3 (omega arith) j)

pub words-same : (k : ℕ) (xs ys : List ℕ) → Same (4 * k) xs ys → words k xs ≡ words k ys
unfolding words
words-same zero xs ys h = refl
words-same (suc k) xs ys h = λ j.
    u32-same xs ys (λ i l. h i (omega arith)) j
    ∷ words-same k (drop 4 xs) (drop 4 ys) (λ i l. get_or-drop 4 xs i 0 ∙ h (4 + i) (omega arith) ∙ sym (get_or-drop 4 ys i 0)) j

-- from a place on, the first n bytes are those of the whole
start : (n at k : ℕ) (bytes : List ℕ) → at + k ≤ n → Same k (drop at (take n bytes)) (drop at bytes)
start n at k bytes fits i l =
    get_or-drop at (take n bytes) i 0 ∙ get_or-take n bytes (at + i) 0 (omega arith) ∙ sym (get_or-drop at bytes i 0)

-- ---- the header

-- what a header is read off is the same in both
record Alike (a b : List ℕ) : Type 0 where
  magic : take 8 a ≡ take 8 b
  units : (at : ℕ) → at + 2 ≤ 512 → unit_at a at ≡ unit_at b at
  numbers : (at : ℕ) → at + 4 ≤ 512 → word_at a at ≡ word_at b at
  difat : words 109 (drop 76 a) ≡ words 109 (drop 76 b)

strict_there : (validation : Validation) (version : Version) (a b : List ℕ) → word_at a 40 ≡ word_at b 40
    → IfStrict validation (IsStrictHeader version a) → IfStrict validation (IsStrictHeader version b)
strict_there Permissive version a b e h = tt
strict_there Strict V3 a b e h = sym e ∙ h
strict_there Strict V4 a b e h = tt

accepts_there : (validation : Validation) (a b : List ℕ) (h : Header) → Alike a b → AcceptsHeader validation a h → AcceptsHeader validation b h
accepts_there validation a b h same accepts =
    let there = accepts.header in
    let stored : stored_difat a ≡ stored_difat b = ap entries_before_free same.difat in
    record {
      header = record {
        fixed = record {
          magic = sym same.magic ∙ there.fixed.magic;
          major_version = sym (same.units 26 (lit≤ tt)) ∙ there.fixed.major_version;
          byte_order = sym (same.units 28 (lit≤ tt)) ∙ there.fixed.byte_order;
          shift = sym (same.units 30 (lit≤ tt)) ∙ there.fixed.shift;
          mini_shift = sym (same.units 32 (lit≤ tt)) ∙ there.fixed.mini_shift;
          mini_stream_cutoff = sym (same.numbers 56 (lit≤ tt)) ∙ there.fixed.mini_stream_cutoff;
        };
        num_dir_sectors = there.num_dir_sectors ∙ ap (dir_sectors_of h.version) (same.numbers 40 (lit≤ tt));
        num_fat_sectors = there.num_fat_sectors ∙ same.numbers 44 (lit≤ tt);
        first_dir_sector = there.first_dir_sector ∙ same.numbers 48 (lit≤ tt);
        first_minifat_sector = there.first_minifat_sector ∙ same.numbers 60 (lit≤ tt);
        num_minifat_sectors = there.num_minifat_sectors ∙ same.numbers 64 (lit≤ tt);
        first_difat_sector = there.first_difat_sector ∙ ap first_difat_of (same.numbers 68 (lit≤ tt));
        num_difat_sectors = there.num_difat_sectors ∙ same.numbers 72 (lit≤ tt);
        difat = there.difat ∙ ap padded_difat stored;
        difat_entries = ap (list_all is_regular) (sym stored) ∙ there.difat_entries;
      };
      strict = strict_there validation h.version a b (same.numbers 40 (lit≤ tt)) accepts.strict;
    }

alike_start : (bytes : List ℕ) → Alike (take 512 bytes) bytes
unfolding unit_at word_at
alike_start bytes = record {
  magic = take-take 8 512 bytes (lit≤ tt);
  units = λ at fits. u16-same (drop at (take 512 bytes)) (drop at bytes) (start 512 at 2 bytes fits);
  numbers = λ at fits. u32-same (drop at (take 512 bytes)) (drop at bytes) (start 512 at 4 bytes fits);
  difat = words-same 109 (drop 76 (take 512 bytes)) (drop 76 bytes) (start 512 76 436 bytes (lit≤ tt));
}

back : (a b : List ℕ) → Alike a b → Alike b a
back a b same = record {
  magic = sym same.magic;
  units = λ at fits. sym (same.units at fits);
  numbers = λ at fits. sym (same.numbers at fits);
  difat = sym same.difat;
}

pub header_at_start : (validation : Validation) (bytes : List ℕ) (h : Header)
    → AcceptsHeader validation (take 512 bytes) h ↔ AcceptsHeader validation bytes h
header_at_start validation bytes h = (
  λ accepts. accepts_there validation (take 512 bytes) bytes h (alike_start bytes) accepts,
  λ accepts. accepts_there validation bytes (take 512 bytes) h (back (take 512 bytes) bytes (alike_start bytes)) accepts,
)
