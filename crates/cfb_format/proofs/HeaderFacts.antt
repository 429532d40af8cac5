-- A written header is read back.
use Rattle.std.proofs.Common.{◌≡◌, ◌<◌, ◌^◌, ℕ, List, [], ◌∷◌, refl, sym, ◌∙◌, ap, subst, length, lit<}
use Rattle.std.specs.Prelude.{if◌then◌else◌, ◌==◌}
use Rattle.std.specs.List.{AllByRecursion, list_all}
use Rattle.std.proofs.lemmas.Nat.{from_le_bytes-to_le_bytes_2, from_le_bytes-to_le_bytes_4}
use Rattle.std.proofs.lemmas.Bool.{ne_eqb}
use Rattle.cfb_format.specs.declared.version.Version.{Version}
use Rattle.cfb_format.specs.declared.version.Version.TheVariants.{V3, V4}
use Rattle.cfb_format.specs.declared.validate.Validation.{Validation}
use Rattle.cfb_format.specs.declared.validate.Validation.TheVariants.{Permissive, Strict}
use Rattle.cfb_format.specs.declared.header.Header.{Header}
use Rattle.cfb_format.specs.Bytes.{unit_at, word_at, words, word_bytes, unit_bytes, version_number, sector_shift, end_of_chain, free_sector, is_regular}
use Rattle.cfb_format.specs.Header.{IsHeader, AcceptsHeader, IfStrict, IsStrictHeader, IsStrictDirCount, IsValidHeader, HeaderFits, header_bytes, dir_sectors_of, stored_difat, padded_difat, entries_before_free}

small_version : (v : Version) → version_number v < 2 ^ 16
small_version V3 = lit< tt
small_version V4 = lit< tt

small_shift : (v : Version) → sector_shift v < 2 ^ 16
small_shift V3 = lit< tt
small_shift V4 = lit< tt

pub words-word_bytes : (xs : List ℕ) → AllByRecursion (λ x. x < 2 ^ 32) xs → words (length xs) (word_bytes xs) ≡ xs
unfolding words word_bytes
words-word_bytes [] h = refl
words-word_bytes (x ∷ xs) h = λ i. from_le_bytes-to_le_bytes_4 x h.0 i ∷ words-word_bytes xs h.1 i

stored_back : (h : Header) → HeaderFits h → IsValidHeader h → stored_difat (header_bytes h) ≡ entries_before_free h.initial_difat_entries
unfolding header_bytes word_bytes unit_bytes
stored_back h fits valid =
    ap entries_before_free (subst (λ n. words n (word_bytes h.initial_difat_entries) ≡ h.initial_difat_entries) valid.len (words-word_bytes h.initial_difat_entries fits.initial_difat_entries))

header_back : (h : Header) → HeaderFits h → IsValidHeader h → IsHeader (header_bytes h) h
unfolding unit_at word_at header_bytes word_bytes unit_bytes
header_back h fits valid = record {
  fixed = record {
    magic = refl;
    major_version = from_le_bytes-to_le_bytes_2 (version_number h.version) (small_version h.version);
    byte_order = refl;
    shift = from_le_bytes-to_le_bytes_2 (sector_shift h.version) (small_shift h.version);
    mini_shift = refl;
    mini_stream_cutoff = refl;
  };
  num_dir_sectors = valid.num_dir_sectors ∙ ap (dir_sectors_of h.version) (sym (from_le_bytes-to_le_bytes_4 h.num_dir_sectors fits.num_dir_sectors));
  num_fat_sectors = sym (from_le_bytes-to_le_bytes_4 h.num_fat_sectors fits.num_fat_sectors);
  first_dir_sector = sym (from_le_bytes-to_le_bytes_4 h.first_dir_sector fits.first_dir_sector);
  first_minifat_sector = sym (from_le_bytes-to_le_bytes_4 h.first_minifat_sector fits.first_minifat_sector);
  num_minifat_sectors = sym (from_le_bytes-to_le_bytes_4 h.num_minifat_sectors fits.num_minifat_sectors);
  first_difat_sector = sym (ap (λ w. if w == free_sector then end_of_chain else w) (from_le_bytes-to_le_bytes_4 h.first_difat_sector fits.first_difat_sector)
      ∙ ap (λ b. if b then end_of_chain else h.first_difat_sector) (ne_eqb h.first_difat_sector free_sector valid.first_difat_sector));
  num_difat_sectors = sym (from_le_bytes-to_le_bytes_4 h.num_difat_sectors fits.num_difat_sectors);
  difat = valid.padded ∙ ap padded_difat (sym (stored_back h fits valid));
  difat_entries = ap (list_all is_regular) (stored_back h fits valid) ∙ valid.difat_entries;
}

-- version 3 counts no directory sectors
counted_back : (h : Header) → HeaderFits h → IsValidHeader h → word_at (header_bytes h) 40 ≡ dir_sectors_of h.version h.num_dir_sectors
unfolding word_at header_bytes word_bytes unit_bytes
counted_back h fits valid = from_le_bytes-to_le_bytes_4 h.num_dir_sectors fits.num_dir_sectors ∙ valid.num_dir_sectors

strict_count : (version : Version) (word kept : ℕ) → word ≡ dir_sectors_of version kept → IsStrictDirCount version word
strict_count V3 word kept e = e
strict_count V4 word kept e = tt

strict_back : (validation : Validation) (h : Header) → HeaderFits h → IsValidHeader h → IfStrict validation (IsStrictHeader h.version (header_bytes h))
strict_back Permissive h fits valid = tt
strict_back Strict h fits valid = strict_count h.version (word_at (header_bytes h) 40) h.num_dir_sectors (counted_back h fits valid)

pub header_read_back : (validation : Validation) (h : Header) → HeaderFits h → IsValidHeader h → AcceptsHeader validation (header_bytes h) h
header_read_back validation h fits valid = record { header = header_back h fits valid; strict = strict_back validation h fits valid }
