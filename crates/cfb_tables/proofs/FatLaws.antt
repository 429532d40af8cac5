-- The FAT out of words is the file's FAT.
use Rattle.std.proofs.Common.{◌≡◌, ℕ, true, List, sym, subst, ap}
use Rattle.std.specs.Prelude.{◌==◌}
use Rattle.std.specs.List.{list_all}
use Rattle.std.proofs.lemmas.Bool.{eqb-true}
use Rattle.std.proofs.lemmas.List.Sums.{AllPass-from_list_all, list_all-from_AllPass}
use Rattle.cfb_format.specs.declared.validate.Validation.{Validation}
use Rattle.cfb_format.specs.declared.validate.Validation.TheVariants.{Permissive, Strict}
use Rattle.cfb_format.specs.declared.version.Version.{Version}
use Rattle.cfb_format.specs.Bytes.{sector_count, free_sector}
use Rattle.cfb_format.specs.Fat.{fat_of, fat_words, fat_padding, is_fat_padding, IsFat, IsStrictFat}
use Rattle.cfb_format.specs.Header.{IfStrict}
use Rattle.cfb_tables.specs.ReadFat.{AcceptsFat, is_padding_in, ReadIsTheFilesFat, FilesFatIsRead}

-- what strict opening takes as padding, permissive opening does
padding-may : (v : Validation) (ws : List ℕ) → list_all (is_padding_in v) ws ≡ true → list_all is_fat_padding ws ≡ true
padding-may Permissive ws all = all
padding-may Strict ws all = list_all-from_AllPass is_fat_padding ws
    (λ i d lt. ap is_fat_padding (eqb-true _ free_sector (AllPass-from_list_all (λ word. word == free_sector) ws all i d lt)))

module _ (version : Version) (bytes list own fat : List ℕ) where
  abbrev n : ℕ
  n = sector_count version bytes

  abbrev words : List ℕ
  words = fat_words version bytes list

  accepted-is : (v : Validation) → AcceptsFat v n words list own fat → IsFat version bytes list own fat
  unfolding fat_of
  accepted-is v a = record { values = a.values; padding = padding-may v (fat_padding version bytes list) a.padding; marks = a.valid.marks; pointers = a.valid.pointers }

  accepted-strict : (v : Validation) → AcceptsFat v n words list own fat → IfStrict v (IsStrictFat version bytes list own)
  accepted-strict Permissive a = tt
  accepted-strict Strict a = record { padding = a.padding; fat_marks = a.strict.fat_marks; difat_marks = a.strict.difat_marks; pointers = a.strict.pointers }

  is-accepted : (v : Validation) → IsFat version bytes list own fat → IfStrict v (IsStrictFat version bytes list own) → AcceptsFat v n words list own fat
  unfolding fat_of
  is-accepted Permissive f s = record { values = f.values; padding = f.padding; strict = tt; valid = record { marks = f.marks; pointers = f.pointers } }
  is-accepted Strict f s = record {
    values = f.values;
    padding = s.padding;
    strict = record { fat_marks = s.fat_marks; difat_marks = s.difat_marks; pointers = s.pointers };
    valid = record { marks = f.marks; pointers = f.pointers };
  }

pub read_sound : ReadIsTheFilesFat
read_sound v version bytes list own fat words n count same a =
    let b = subst (λ (k : ℕ). AcceptsFat v k (fat_words version bytes list) list own fat) (sym count) (subst (λ (z : List ℕ). AcceptsFat v n z list own fat) same a) in
    (accepted-is version bytes list own fat v b, accepted-strict version bytes list own fat v b)

pub read_complete : FilesFatIsRead
read_complete v version bytes list own fat words n count same f s =
    let b = is-accepted version bytes list own fat v f s in
    subst (λ (z : List ℕ). AcceptsFat v n z list own fat) (sym same) (subst (λ (k : ℕ). AcceptsFat v k (fat_words version bytes list) list own fat) count b)
