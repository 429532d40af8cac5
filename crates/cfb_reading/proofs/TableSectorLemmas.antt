-- The sectors of both tables, out of the DIFAT sectors and what they list.
use Rattle.std.proofs.Common.{◌≡◌, ℕ, ◌+◌, ◌-◌, ◌*◌, ◌≤◌, min, max, List, ◌++◌, true, length, sym, ◌∙◌, ap, subst, arith, length-take}
use Rattle.std.specs.Prelude.{flat_map, nat_le, ◌==◌}
use Rattle.std.specs.List.{list_all, suffix_len}
use Rattle.cfb_format.specs.declared.validate.Validation.{Validation}
use Rattle.cfb_format.specs.declared.validate.Validation.TheVariants.{Permissive, Strict}
use Rattle.cfb_format.specs.declared.header.Header.{Header}
use Rattle.cfb_format.specs.Bytes.{is_whole_sector, sector_len, sector_start, words_per_sector, max_regular_sector, free_sector}
use Rattle.cfb_format.specs.Fat.{FollowsDifat, IsStrictDifat, all_difat_entries, difat_entries, next_difat, without_padding}
use Rattle.cfb_format.specs.Header.{IfStrict, header_difat_len}
use Rattle.cfb_format.proofs.Unique.{FollowsDifat-unique}
use Rattle.cfb_sectors.specs.Sectors.{SectorFile, sectors_end}
use Rattle.cfb_alloc.specs.Alloc.{AreListed, IsMeasured}
use Rattle.cfb_reading.specs.Difat.{AcceptsDifat, AcceptsNoDifat, AcceptsDifatSectors, AcceptsNoDifatSectors, HasRightCounts, has_sector, is_strict_next, listed_sectors}
use Rattle.cfb_reading.proofs.DifatLemmas.{all-below}

-- ---- how many there are

-- no more are listed than entries stand there
listed-few : (h : Header) (entries : List ℕ) → length (listed_sectors h entries) ≤ length entries
listed-few h entries =
    let kept = without_padding h entries in
    let k = max (max header_difat_len h.num_fat_sectors) (length entries - suffix_len (λ word. word == 0) entries) in
    let inner : length kept ≡ min k (length entries) = length-take k entries in
    let outer : length (listed_sectors h entries) ≡ min (length kept - suffix_len (λ word. word == free_sector) kept) (length kept) =
    length-take (length kept - suffix_len (λ word. word == free_sector) kept) kept in
    omega (arith, inner, outer)

pub are-listed : (file : SectorFile) (h : Header) (list own entries : List ℕ) → file.len ≤ sectors_end file → file.num_sectors ≤ max_regular_sector
    → length own ≤ file.num_sectors → list_all (has_sector file) own ≡ true → length entries ≡ header_difat_len + length own * (words_per_sector file.version - 1)
    → list ≡ listed_sectors h entries → list_all (has_sector file) list ≡ true → AreListed file.version file.num_sectors list own
are-listed file h list own entries within short few own_there count is there = record {
  sizes = record {
    short = short;
    places = let same : length list ≡ length (listed_sectors h entries) = ap length is in let most = listed-few h entries in omega (arith, same, most, count);
    difats = few;
  };
  fats = all-below file list within there;
  difats = all-below file own within own_there;
}

-- ---- what opening reads

module _ (validation : Validation) (bytes : List ℕ) (h : Header) (list own entries : List ℕ) where
  strict-difat : entries ≡ all_difat_entries h bytes own → list ≡ listed_sectors h entries
      → IfStrict validation (list_all (λ i. is_strict_next (next_difat h.version bytes i)) own ≡ true) → IfStrict validation (HasRightCounts h entries own)
      → IfStrict validation (IsStrictDifat bytes h list own)
  strict-difat = go validation
    where
      go : (v : Validation) → entries ≡ all_difat_entries h bytes own → list ≡ listed_sectors h entries
          → IfStrict v (list_all (λ i. is_strict_next (next_difat h.version bytes i)) own ≡ true) → IfStrict v (HasRightCounts h entries own)
          → IfStrict v (IsStrictDifat bytes h list own)
      go Permissive all is ended counts = tt
      go Strict all is ended counts = record {
        ended = ended;
        unpadded = subst (λ (es : List ℕ). length (without_padding h es) ≡ length es) all counts.unpadded;
        fat_count = counts.fat_count ∙ ap length (sym is);
        difat_count = counts.difat_count;
      }

  pub accepted : AcceptsDifatSectors validation h.version bytes h.first_difat_sector own → entries ≡ all_difat_entries h bytes own → list ≡ listed_sectors h entries
      → list_all (is_whole_sector h.version bytes) list ≡ true → IfStrict validation (HasRightCounts h entries own) → AcceptsDifat validation bytes h list own
  accepted a all is whole counts = record {
    difat = record { sectors = a.sectors; distinct = a.distinct; entries = is ∙ ap (listed_sectors h) all; in_file = whole };
    strict = strict-difat all is a.ended counts;
  }

-- what it reads are the DIFAT sectors that it reads, and what they list
module _ (validation : Validation) (bytes : List ℕ) (h : Header) (list own : List ℕ) (a : AcceptsDifat validation bytes h list own) where
  pub its-sectors : AcceptsDifatSectors validation h.version bytes h.first_difat_sector own
  its-sectors = record { sectors = a.difat.sectors; distinct = a.difat.distinct; ended = ended validation a.strict }
    where
      ended : (v : Validation) → IfStrict v (IsStrictDifat bytes h list own) → IfStrict v (list_all (λ i. is_strict_next (next_difat h.version bytes i)) own ≡ true)
      ended Permissive s = tt
      ended Strict s = s.ended

  pub its-list : (entries : List ℕ) → entries ≡ all_difat_entries h bytes own → listed_sectors h entries ≡ list
  its-list entries all = ap (listed_sectors h) all ∙ sym a.difat.entries

  pub its-counts : (entries : List ℕ) → entries ≡ all_difat_entries h bytes own → IfStrict validation (HasRightCounts h entries own)
  its-counts entries all = go validation a.strict
    where
      go : (v : Validation) → IfStrict v (IsStrictDifat bytes h list own) → IfStrict v (HasRightCounts h entries own)
      go Permissive s = tt
      go Strict s = record {
        unpadded = subst (λ (es : List ℕ). length (without_padding h es) ≡ length es) (sym all) s.unpadded;
        fat_count = s.fat_count ∙ ap length (sym (its-list entries all));
        difat_count = s.difat_count;
      }

-- ---- the same of a file that is measured, under a header of its version

module _ (validation : Validation) (file : SectorFile) (h : Header) (measured : IsMeasured file) (same : h.version ≡ file.version) where
  all-there : (list : List ℕ) → list_all (has_sector file) list ≡ list_all (is_whole_sector h.version file.bytes) list
  all-there list = ap (λ n. list_all (λ i. nat_le (sector_start file.version i + sector_len file.version) n) list) measured ∙ ap (λ v. list_all (is_whole_sector v file.bytes) list) (sym same)

  all-entries : (own entries : List ℕ) → entries ≡ h.initial_difat_entries ++ flat_map (difat_entries file.version file.bytes) own → entries ≡ all_difat_entries h file.bytes own
  all-entries own entries is = is ∙ ap (λ v. h.initial_difat_entries ++ flat_map (difat_entries v file.bytes) own) (sym same)

  pub file-accepted : (list own entries : List ℕ) → AcceptsDifatSectors validation file.version file.bytes h.first_difat_sector own
      → entries ≡ h.initial_difat_entries ++ flat_map (difat_entries file.version file.bytes) own → list ≡ listed_sectors h entries
      → list_all (has_sector file) list ≡ true → IfStrict validation (HasRightCounts h entries own) → AcceptsDifat validation file.bytes h list own
  file-accepted list own entries a all is there counts =
      accepted validation file.bytes h list own entries (subst (λ v. AcceptsDifatSectors validation v file.bytes h.first_difat_sector own) (sym same) a)
      (all-entries own entries all) is (sym (all-there list) ∙ there) counts

  pub no-sectors : AcceptsNoDifatSectors validation file.version file.bytes h.first_difat_sector → AcceptsNoDifat validation file.bytes h
  no-sectors none list own a = none own (subst (λ v. AcceptsDifatSectors validation v file.bytes h.first_difat_sector own) same (its-sectors validation file.bytes h list own a))

  pub no-list : (own entries : List ℕ) → AcceptsDifatSectors validation file.version file.bytes h.first_difat_sector own
      → entries ≡ h.initial_difat_entries ++ flat_map (difat_entries file.version file.bytes) own
      → (list_all (has_sector file) (listed_sectors h entries) ≡ true → IfStrict validation (HasRightCounts h entries own) → ⊥)
      → AcceptsNoDifat validation file.bytes h
  no-list own entries s all none list own' a =
      let once : own' ≡ own = FollowsDifat-unique file.version file.bytes h.first_difat_sector own' own
      (subst (λ v. FollowsDifat v file.bytes h.first_difat_sector own') same a.difat.sectors) s.sectors in
      let b = subst (λ (o : List ℕ). AcceptsDifat validation file.bytes h list o) once a in
      let listed = its-list validation file.bytes h list own b entries (all-entries own entries all) in
      none (ap (list_all (has_sector file)) listed ∙ all-there list ∙ b.difat.in_file)
      (its-counts validation file.bytes h list own b entries (all-entries own entries all))
