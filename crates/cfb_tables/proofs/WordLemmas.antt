-- The words of the FAT past the file's sectors, and the table sectors of a file.
use Rattle.std.proofs.Common.{◌≡◌, ℕ, suc, ◌+◌, ◌<◌, inl, inr, Bool, true, false, List, [], ◌∷◌, take, drop, map, refl, sym, ◌∙◌, ap, subst, arith, ◌||◌}
use Rattle.std.specs.Prelude.{Contains, nat_eq}
use Rattle.std.specs.List.{list_all, list_any, range_with_len}
use Rattle.std.proofs.lemmas.List.{take-take, drop-take}
use Rattle.std.proofs.lemmas.List.Sums.{AllPass-from_list_all}
use Rattle.std.proofs.lemmas.Map.Steps.{length-le_from_distinct_below}
use Rattle.std.proofs.lemmas.Map.Views.{exact_unsigned_eq}
use Rattle.cfb_format.specs.declared.version.Version.{Version}
use Rattle.cfb_format.specs.declared.validate.Validation.{Validation}
use Rattle.cfb_format.specs.Bytes.{sector_count, is_whole_sector}
use Rattle.cfb_format.specs.Fat.{FollowsDifat, next_difat, fat_value}
use Rattle.cfb_format.specs.Header.{IfStrict}
use Rattle.cfb_format.proofs.Words.{whole-below}
use Rattle.cfb_tables.specs.ReadFat.{AcceptsFat, HasStrictWords, is_padding_in}
use Rattle.cfb_tables.specs.ReadWords.{PaddingIsApart, TableSectorsAreInFile, DifatSectorsAreFew}
use Rattle.cfb_format.proofs.Members.{Contains-nil, Contains-cases}

-- ---- padding

module _ (v : Validation) (n : ℕ) (words list own fat : List ℕ) where
  same_words : take n (take n words) ≡ take n words
  same_words = take-take n n words (omega arith)

  no_more : drop n (take n words) ≡ []
  no_more = let at : n ≡ n + 0 = omega arith in ap (λ k. drop n (take k words)) at ∙ drop-take n 0 words

  without : AcceptsFat v n words list own fat → AcceptsFat v n (take n words) list own fat
  without a = record {
    values = a.values ∙ ap (λ (z : List ℕ). map (fat_value n list own z) (range_with_len 0 n)) (sym same_words);
    padding = ap (list_all (is_padding_in v)) no_more;
    strict = subst (λ (z : List ℕ). IfStrict v (HasStrictWords n z list own)) (sym same_words) a.strict;
    valid = a.valid;
  }

  with_padding : AcceptsFat v n (take n words) list own fat → list_all (is_padding_in v) (drop n words) ≡ true → AcceptsFat v n words list own fat
  with_padding a padding = record {
    values = a.values ∙ ap (λ (z : List ℕ). map (fat_value n list own z) (range_with_len 0 n)) same_words;
    padding = padding;
    strict = subst (λ (z : List ℕ). IfStrict v (HasStrictWords n z list own)) same_words a.strict;
    valid = a.valid;
  }

pub padding-is-apart : PaddingIsApart
padding-is-apart v n words list own fat = ((λ a. (without v n words list own fat a, a.padding)), with_padding v n words list own fat)

-- ---- table sectors

own_below : (v : Version) (bytes : List ℕ) (s : ℕ) (own : List ℕ) → FollowsDifat v bytes s own → (i : ℕ) → Contains own i → i < sector_count v bytes
own_below v bytes s [] f i m = absurd (Contains-nil i m)
own_below v bytes s (x ∷ own) f i m = elim (Contains-cases x own i m) [
  | inl same ↦ subst (λ k. k < sector_count v bytes) same (whole-below v bytes x f.2)
  | inr r ↦ own_below v bytes (next_difat v bytes x) own f.4 i r
]

pub table-sectors-are-in-file : TableSectorsAreInFile
table-sectors-are-in-file bytes h list own d = (
  (λ i m.
      let whole = AllPass-from_list_all (is_whole_sector h.version bytes) list d.in_file m.0 i m.1 in
      whole-below h.version bytes i (ap (is_whole_sector h.version bytes) (sym m.2) ∙ whole)),
  own_below h.version bytes h.first_difat_sector own d.sectors,
)

pub found_below : (n : ℕ) (xs : List ℕ) → ((i : ℕ) → Contains xs i → i < n) → (q : ℕ) → list_any (nat_eq q) xs ≡ true → q < n
found_below n [] below q e = cc
found_below n (x ∷ xs) below q e = go (nat_eq q x) refl (λ k. found_below n xs (λ i m. below i (later i m)) q k)
  where
    later : (i : ℕ) → Contains xs i → Contains (x ∷ xs) i
    later i (k, lt, is) = (suc k, omega (arith, lt), is)

    go : (b : Bool) → nat_eq q x ≡ b → (list_any (nat_eq q) xs ≡ true → q < n) → q < n
    go true h more = subst (λ k. k < n) (sym (exact_unsigned_eq q x h)) (below x (0, omega arith, refl))
    go false h more = more (sym (ap (λ b. b || list_any (nat_eq q) xs) h) ∙ e)

pub difat-sectors-are-few : DifatSectorsAreFew
difat-sectors-are-few bytes h list own d =
    let n = sector_count h.version bytes in
    length-le_from_distinct_below own n d.distinct (found_below n own (own_below h.version bytes h.first_difat_sector own d.sectors))
