-- The file that each version is created with.
use Rattle.std.proofs.Common.{◌≡◌, ◌∙◌, ℕ, zero, suc, ◌+◌, ◌-◌, ◌*◌, ◌/◌, ◌%◌, ◌^◌, ◌<◌, ◌≤◌, List, [], ◌∷◌, Bool, true, ◌&&◌, refl, sym, ap, subst, map, replicate, length, take, drop, arith, lit≤, lit<}
use Rattle.std.specs.Prelude.{slice_index, slice_index_or, IsTrue, Contains, ◌≢◌, ◌==◌, nat_le}
use Rattle.std.specs.List.{IsDistinct, AllZip, AllByRecursion, list_all, range_with_len}
use Rattle.std.specs.Char.Utf16.{utf16_chars}
use Rattle.cfb_format.specs.declared.version.Version.{Version}
use Rattle.cfb_format.specs.declared.version.Version.TheVariants.{V3, V4}
use Rattle.cfb_format.specs.declared.validate.Validation.{Validation}
use Rattle.cfb_format.specs.declared.validate.Validation.TheVariants.{Strict}
use Rattle.cfb_format.specs.Bytes.{unit_at, word_at, long_at, words, word_bytes, unit_bytes, sector_len, sector_start, sector_count, words_per_sector, entries_per_sector, stream_len_modulus, is_whole_sector, is_regular, points_below, free_sector, fat_sector, end_of_chain}
use Rattle.cfb_format.specs.Header.{AcceptsHeader, HeaderFits, IsValidHeader, dir_sectors_of, header_bytes}
use Rattle.cfb_format.specs.Fat.{IsDifat, IsFat, IsStrictDifat, IsStrictFat, fat_words, raw_fat, fat_padding, fat_value, fat_of, is_fat_padding}
use Rattle.cfb_format.specs.Chain.{value, chain_within}
use Rattle.cfb_format.specs.Names.{Cases}
use Rattle.cfb_format.specs.DirectoryEntry.{Entry, IsEntry, IsStrictEntry, entry_bytes, units, slots, empty_root_entry, unallocated_entry}
use Rattle.cfb_format.specs.Siblings.{leaf}
use Rattle.cfb_format.specs.Reading.{IsDirectory, IsOutline, IsMinifat, HasLength, Reads, IsStrict, IsStrictCount, no_more}
use Rattle.cfb_format.specs.Meaning.{Means, objects_from}
use Rattle.cfb_format.specs.Soundness.{IsSound, IsOwned, owner, no_owner}
use Rattle.cfb_format.specs.Full.{HasExactTables}
use Rattle.cfb_format.specs.Created.{created_bytes, created_header, created_reading, created_directory_count, empty_tree}
use Rattle.cfb_format.proofs.HeaderFacts.{header_read_back}
use Rattle.cfb_format.proofs.HeaderStart.{header_at_start}

-- ---- what the bytes are, by computing them for each version

pub three_sectors : (v : Version) → length (created_bytes v) ≡ 3 * sector_len v
unfolding created_bytes header_bytes word_bytes entry_bytes unit_bytes
three_sectors V3 = refl
three_sectors V4 = refl

first_bytes : (v : Version) → take 512 (created_bytes v) ≡ header_bytes (created_header v)
unfolding created_bytes header_bytes word_bytes entry_bytes unit_bytes
first_bytes V3 = refl
first_bytes V4 = refl

words_of_fat : (v : Version) → fat_words v (created_bytes v) (0 ∷ []) ≡ fat_sector ∷ end_of_chain ∷ replicate (words_per_sector v - 2) free_sector
unfolding created_bytes header_bytes word_bytes entry_bytes unit_bytes words
words_of_fat V3 = refl
words_of_fat V4 = refl

slots_are : (v : Version) → slots v (created_bytes v) (1 ∷ []) ≡ entry_bytes empty_root_entry ∷ replicate (entries_per_sector v - 1) (entry_bytes unallocated_entry)
unfolding created_bytes header_bytes word_bytes entry_bytes unit_bytes slots
slots_are V3 = refl
slots_are V4 = refl

-- ---- numbers of each version

two_sectors : (v : Version) → sector_count v (created_bytes v) ≡ 2
two_sectors v = ap (λ n. (n + (sector_len v - 1)) / sector_len v - 1) (three_sectors v) ∙ two v
  where
    two : (v : Version) → (3 * sector_len v + (sector_len v - 1)) / sector_len v - 1 ≡ 2
    two V3 = refl
    two V4 = refl

fat_whole : (v : Version) → list_all (λ i. nat_le (sector_start v i + sector_len v) (3 * sector_len v)) (0 ∷ []) ≡ true
fat_whole V3 = refl
fat_whole V4 = refl

directory_whole : (v : Version) → list_all (λ i. nat_le (sector_start v i + sector_len v) (3 * sector_len v)) (1 ∷ []) ≡ true
directory_whole V3 = refl
directory_whole V4 = refl

whole_in : (v : Version) (list : List ℕ) → list_all (λ i. nat_le (sector_start v i + sector_len v) (3 * sector_len v)) list ≡ true
    → list_all (is_whole_sector v (created_bytes v)) list ≡ true
whole_in v list e = ap (λ n. list_all (λ i. nat_le (sector_start v i + sector_len v) n) list) (three_sectors v) ∙ e

long_enough : (v : Version) (n : ℕ) → n ≡ 3 * sector_len v → (512 ≤ n) × (sector_len v ≤ n) × (n ≤ 0xFFFF_FFFB * sector_len v)
long_enough V3 n e = (omega arith, omega arith, omega arith)
long_enough V4 n e = (omega arith, omega arith, omega arith)

few_slots : (v : Version) → length (entry_bytes empty_root_entry ∷ replicate (entries_per_sector v - 1) (entry_bytes unallocated_entry)) ≤ 0xFFFF_FFFB
few_slots V3 = lit≤ tt
few_slots V4 = lit≤ tt

no_len : (v : Version) → 0 ≡ 0 % stream_len_modulus v
no_len V3 = refl
no_len V4 = refl

covered : (v : Version) → 2 ≤ 1 * words_per_sector v
covered V3 = lit≤ tt
covered V4 = lit≤ tt

-- ---- header

few_sectors : (v : Version) → created_directory_count v < 2 ^ 32
few_sectors V3 = lit< tt
few_sectors V4 = lit< tt

kept_count : (v : Version) → created_directory_count v ≡ dir_sectors_of v (created_directory_count v)
kept_count V3 = refl
kept_count V4 = refl

all_free : (n : ℕ) → AllByRecursion (λ word. word < 2 ^ 32) (replicate n free_sector)
all_free zero = tt
all_free (suc n) = (lit< tt, all_free n)

header_fits : (v : Version) → HeaderFits (created_header v)
header_fits v = record {
  num_dir_sectors = few_sectors v;
  num_fat_sectors = lit< tt;
  first_dir_sector = lit< tt;
  first_minifat_sector = lit< tt;
  num_minifat_sectors = lit< tt;
  first_difat_sector = lit< tt;
  num_difat_sectors = lit< tt;
  initial_difat_entries = (lit< tt, all_free 108);
}

header_valid : (v : Version) → IsValidHeader (created_header v)
header_valid v = record { num_dir_sectors = kept_count v; first_difat_sector = λ e. omega (arith, e); len = refl; padded = refl; difat_entries = refl }

-- opening in both modes finds the header
pub header_accepted : (validation : Validation) (v : Version) → AcceptsHeader validation (created_bytes v) (created_header v)
header_accepted validation v =
    (header_at_start validation (created_bytes v) (created_header v)).0
    (subst (λ bytes. AcceptsHeader validation bytes (created_header v)) (sym (first_bytes v)) (header_read_back validation (created_header v) (header_fits v) (header_valid v)))

-- ---- DIFAT and FAT

difat : (v : Version) → IsDifat (created_bytes v) (created_header v) (0 ∷ []) []
unfolding IsDistinct
difat v = record { sectors = refl; distinct = tt; entries = refl; in_file = whole_in v (0 ∷ []) (fat_whole v) }

strict_difat : (v : Version) → IsStrictDifat (created_bytes v) (created_header v) (0 ∷ []) []
strict_difat v = record { ended = refl; unpadded = refl; fat_count = refl; difat_count = refl }

raw_is : (v : Version) → raw_fat v (created_bytes v) (0 ∷ []) ≡ fat_sector ∷ end_of_chain ∷ []
raw_is v = λ i. take (two_sectors v i) (words_of_fat v i)

padding_is : (v : Version) → fat_padding v (created_bytes v) (0 ∷ []) ≡ replicate (words_per_sector v - 2) free_sector
padding_is v = λ i. drop (two_sectors v i) (words_of_fat v i)

values_are : (v : Version) → fat_of v (created_bytes v) (0 ∷ []) [] ≡ fat_sector ∷ end_of_chain ∷ []
unfolding fat_of
values_are v = λ i. map (fat_value (two_sectors v i) (0 ∷ []) [] (raw_is v i)) (range_with_len 0 (two_sectors v i))

-- a test that free words pass is passed by the padding
passed : (v : Version) (p : ℕ → Bool) → p free_sector ≡ true → list_all p (fat_padding v (created_bytes v) (0 ∷ [])) ≡ true
passed v p e = ap (list_all p) (padding_is v) ∙ go (words_per_sector v - 2)
  where
    go : (n : ℕ) → list_all p (replicate n free_sector) ≡ true
    go zero = refl
    go (suc n) = ap (λ b. b && list_all p (replicate n free_sector)) e ∙ go n

fat : (v : Version) → IsFat v (created_bytes v) (0 ∷ []) [] (fat_sector ∷ end_of_chain ∷ [])
unfolding IsDistinct
fat v = record { values = sym (values_are v); padding = passed v is_fat_padding refl; marks = refl; pointers = tt }

strict_fat : (v : Version) → IsStrictFat v (created_bytes v) (0 ∷ []) []
strict_fat v = record {
  padding = passed v (λ word. word == free_sector) refl;
  fat_marks = ap (λ raw. list_all (λ i. slice_index_or raw i free_sector == fat_sector) (0 ∷ [])) (raw_is v);
  difat_marks = refl;
  pointers = λ i. list_all (points_below (two_sectors v i)) (raw_is v i);
}

-- ---- the directory: the root's entry, and one that is not used

root_entry : (v : Version) → IsEntry v (entry_bytes empty_root_entry) empty_root_entry
unfolding entry_bytes word_bytes unit_bytes words units unit_at word_at long_at utf16_chars
root_entry v = record {
  name_len = lit≤ tt;
  name_len_even = refl;
  name_is_text = refl;
  obj_type = refl;
  color = refl;
  name = refl;
  name_allowed = tt;
  left_sibling = refl;
  left_allowed = refl;
  right_sibling = refl;
  right_allowed = refl;
  child = refl;
  child_allowed = refl;
  clsid = refl;
  state_bits = refl;
  creation_time = refl;
  modified_time = refl;
  start_sector = refl;
  stream_len = no_len v;
}

free_entry : (v : Version) → IsEntry v (entry_bytes unallocated_entry) unallocated_entry
unfolding entry_bytes word_bytes unit_bytes words units unit_at word_at long_at utf16_chars
free_entry v = record {
  name_len = lit≤ tt;
  name_len_even = refl;
  name_is_text = refl;
  obj_type = refl;
  color = refl;
  name = refl;
  name_allowed = refl;
  left_sibling = refl;
  left_allowed = refl;
  right_sibling = refl;
  right_allowed = refl;
  child = refl;
  child_allowed = refl;
  clsid = refl;
  state_bits = refl;
  creation_time = refl;
  modified_time = refl;
  start_sector = refl;
  stream_len = no_len v;
}

strict_root : (v : Version) → IsStrictEntry v (entry_bytes empty_root_entry) empty_root_entry
unfolding entry_bytes word_bytes unit_bytes words units unit_at word_at long_at utf16_chars
strict_root v = record { terminator = refl; name = refl; clsid = refl; creation_time = refl; modified_time = refl; start_sector = refl; stream_len = no_len v }

strict_free : (v : Version) → IsStrictEntry v (entry_bytes unallocated_entry) unallocated_entry
unfolding entry_bytes word_bytes unit_bytes words units unit_at word_at long_at utf16_chars
strict_free v = record { terminator = refl; name = refl; clsid = refl; creation_time = refl; modified_time = refl; start_sector = refl; stream_len = no_len v }

-- what holds of both of them holds of all slots
in_slots : (v : Version) (R : List ℕ → Entry → Type 0) → R (entry_bytes empty_root_entry) empty_root_entry → R (entry_bytes unallocated_entry) unallocated_entry
    → AllZip R (slots v (created_bytes v) (1 ∷ [])) (created_reading v).entries
in_slots v R root free = subst (λ ss. AllZip R ss (created_reading v).entries) (sym (slots_are v)) (root, each (entries_per_sector v - 1))
  where
    each : (n : ℕ) → AllZip R (replicate n (entry_bytes unallocated_entry)) (replicate n unallocated_entry)
    each zero = tt
    each (suc n) = (free, each n)

directory : (v : Version) → IsDirectory v (created_bytes v) (fat_sector ∷ end_of_chain ∷ []) 1 (1 ∷ []) (created_reading v).entries
unfolding IsDistinct
directory v = record {
  chain = record { follows = (refl, (λ e. omega arith), lit< tt, refl, refl); distinct = (tt, tt) };
  some = λ e. cc;
  whole = whole_in v (1 ∷ []) (directory_whole v);
  most = subst (λ ss. length ss ≤ 0xFFFF_FFFB) (sym (slots_are v)) (few_slots v);
  slots = in_slots v (IsEntry v) (root_entry v) (free_entry v);
}

outline : (cases : Cases) (v : Version) → IsOutline cases (created_reading v).entries no_more
unfolding IsDistinct
outline cases v = record {
  root = refl;
  root_len = refl;
  children = record { tree = leaf; hangs = refl; is_in_order = refl; distinct = tt; rises = tt };
  contents = tt;
  distinct = (tt, tt);
}

-- ---- the whole file

minifat : (v : Version) → IsMinifat v (created_bytes v) (fat_sector ∷ end_of_chain ∷ []) end_of_chain 0 [] []
unfolding IsDistinct
minifat v = record { chain = record { follows = refl; distinct = tt }; whole = refl; values = refl; in_range = refl; pointers = tt }

has_length : (v : Version) → HasLength v (created_bytes v)
has_length v = let long = long_enough v (length (created_bytes v)) (three_sectors v) in record { header = long.0; sector = long.1; most = long.2 }

-- the created bytes have these parts, whatever the letters
pub reads : (cases : Cases) (v : Version) → Reads cases (created_bytes v) (created_reading v)
reads cases v = record {
  header = (header_accepted Strict v).header;
  len = has_length v;
  difat = difat v;
  fat = fat v;
  directory = directory v;
  outline = outline cases v;
  minifat = minifat v;
}

-- version 4 counts the directory's sector
counted : (v : Version) → IsStrictCount v (created_directory_count v) 1
counted V3 = tt
counted V4 = lit≤ tt

pub strict : (v : Version) → IsStrict (created_bytes v) (created_reading v)
strict v = record {
  header = (header_accepted Strict v).strict;
  difat = strict_difat v;
  fat = strict_fat v;
  directory_count = counted v;
  entries = in_slots v (IsStrictEntry v) (strict_root v) (strict_free v);
  red_apart = refl;
  minifat_len = lit≤ tt;
  minifat_count = refl;
}

pub means : (cases : Cases) (v : Version) → Means cases (created_bytes v) empty_tree
unfolding objects_from
means cases v = record { reading = created_reading v; reads = reads cases v; tree_is = refl }

-- neither FAT word is a pointer, and past them all is free
no_pointer : (i : ℕ) → IsTrue (is_regular (value (fat_sector ∷ end_of_chain ∷ []) i)) → ⊥
no_pointer zero e = cc
no_pointer (suc zero) e = cc
no_pointer (suc (suc i)) e = cc

no_raw_pointer : (i : ℕ) → i < 2 → IsTrue (is_regular (slice_index (fat_sector ∷ end_of_chain ∷ []) i)) → ⊥
no_raw_pointer zero h e = cc
no_raw_pointer (suc zero) h e = cc
no_raw_pointer (suc (suc i)) h e = absurd (omega arith)

-- there is no stream
none : (i : ℕ) → Contains [] i → ⊥
none i (k, lt, is) = absurd (omega arith)

pub sound : (v : Version) → IsSound (created_bytes v) (created_reading v)
unfolding IsDistinct chain_within
sound v = record {
  covers = subst (λ n. n ≤ 1 * words_per_sector v) (sym (two_sectors v)) (covered v);
  mini_stream = refl;
  chains = λ i h. absurd (none i h);
  sectors = ((refl, tt), (tt, tt));
  mini_sectors = tt;
  mini_room = omega arith;
  loose = λ i l p. absurd (no_pointer i p);
  mini_loose = λ i l p. cc;
  pointers = λ i h l p. absurd (no_raw_pointer i (subst (λ raw. i < length raw) (raw_is v) h) (subst (λ raw. IsTrue (is_regular (slice_index raw i))) (raw_is v) p));
  whole = λ i h. absurd (none i h);
}

pub owned : (v : Version) → IsOwned (created_reading v)
unfolding chain_within
owned v = record { sectors = has_owner; mini_sectors = λ m h. absurd (omega arith) }
  where
    has_owner : (i : ℕ) → i < 2 → owner (created_reading v) i ≢ no_owner
    has_owner zero h e = cc
    has_owner (suc zero) h e = cc
    has_owner (suc (suc i)) h e = absurd (omega arith)

pub exact : (v : Version) → HasExactTables (created_reading v)
exact V3 = record { fats = refl; difats = refl }
exact V4 = record { fats = refl; difats = refl }
