-- The words of the FAT as they are kept, one sector more at a time.
use Rattle.std.proofs.Common.{◌≡◌, ℕ, zero, suc, ◌-◌, ◌+◌, ◌<◌, ◌≤◌, min, List, [], ◌∷◌, ◌++◌, true, length, take, drop, refl, sym, ◌∙◌, ap, subst, arith, get_or, length-take}
use Rattle.std.specs.Prelude.{◌&&◌}
use Rattle.std.specs.List.{list_all}
use Rattle.std.proofs.lemmas.Bool.{and_parts}
use Rattle.std.proofs.lemmas.List.{append-nil, take_more, take-append-drop, take-append-le}
use Rattle.std.proofs.lemmas.List.Concat.{flat_map-append}
use Rattle.std.proofs.lemmas.List.Folds.{list_all-append}
use Rattle.cfb_format.specs.declared.validate.Validation.{Validation}
use Rattle.cfb_format.specs.declared.version.Version.{Version}
use Rattle.cfb_format.specs.Bytes.{sector_words}
use Rattle.cfb_format.specs.Fat.{fat_words}
use Rattle.cfb_reading.specs.cfb_tables.ReadFat.{is_padding_in}

-- ---- two lists one behind the other

take-both : (n : ℕ) (xs ys : List ℕ) → take n (xs ++ ys) ≡ take n xs ++ take (n - length xs) ys
take-both zero [] ys = refl
take-both (suc n) [] ys = ap (λ k. take k ys) (let e : suc n ≡ suc n - 0 = omega arith in e)
take-both zero (x ∷ xs) ys = ap (λ k. take k ys) (let e : 0 ≡ 0 - suc (length xs) = omega arith in e)
take-both (suc n) (x ∷ xs) ys = ap (λ (zs : List ℕ). x ∷ zs) (take-both n xs ys ∙ ap (λ k. take n xs ++ take k ys) (let e : n - length xs ≡ suc n - suc (length xs) = omega arith in e))

drop-both : (n : ℕ) (xs ys : List ℕ) → drop n (xs ++ ys) ≡ drop n xs ++ drop (n - length xs) ys
drop-both zero [] ys = refl
drop-both (suc n) [] ys = ap (λ k. drop k ys) (let e : suc n ≡ suc n - 0 = omega arith in e)
drop-both zero (x ∷ xs) ys = ap (λ k. x ∷ xs ++ drop k ys) (let e : 0 ≡ 0 - suc (length xs) = omega arith in e)
drop-both (suc n) (x ∷ xs) ys = drop-both n xs ys ∙ ap (λ k. drop n xs ++ drop k ys) (let e : n - length xs ≡ suc n - suc (length xs) = omega arith in e)

-- ---- the words so far

-- of these words those of n sectors are kept, and the others are padding as this mode wants it
pub record KeepsWords (validation : Validation) (n : ℕ) (words kept : List ℕ) : Type 0 where
  pub first : kept ≡ take n words
  pub padding : list_all (is_padding_in validation) (drop n words) ≡ true

module _ (validation : Validation) (n : ℕ) (words kept more : List ℕ) (k : KeepsWords validation n words kept) where
  -- there is room for as many as there were words to come
  room : n - length words ≡ n - length kept
  room = let e : length kept ≡ min n (length words) = ap length k.first ∙ length-take n words in omega (arith, e)

  pub keeps-more : (now : List ℕ) → now ≡ kept ++ take (n - length kept) more → list_all (is_padding_in validation) (drop (n - length kept) more) ≡ true
      → KeepsWords validation n (words ++ more) now
  keeps-more now is padding = record {
    first = is ∙ ap (λ (ks : List ℕ). ks ++ take (n - length kept) more) k.first ∙ ap (λ m. take n words ++ take m more) (sym room) ∙ sym (take-both n words more);
    padding = ap (list_all (is_padding_in validation)) (drop-both n words more ∙ ap (λ m. drop n words ++ drop m more) room)
        ∙ list_all-append (is_padding_in validation) (drop n words) (drop (n - length kept) more) ∙ (λ j. k.padding j && padding j);
  }

  -- where all is padding, so is what comes next
  pub padding-next : (rest : List ℕ) → list_all (is_padding_in validation) (drop n ((words ++ more) ++ rest)) ≡ true
      → list_all (is_padding_in validation) (drop (n - length kept) more) ≡ true
  padding-next rest all =
      let p = is_padding_in validation in
      let front = and_parts _ _ (sym (list_all-append p (drop n (words ++ more)) (drop (n - length (words ++ more)) rest)) ∙ ap (list_all p) (sym (drop-both n (words ++ more) rest)) ∙ all) in
      let parts = and_parts _ _ (sym (list_all-append p (drop n words) (drop (n - length words) more)) ∙ ap (list_all p) (sym (drop-both n words more)) ∙ front.0) in
      ap (λ m. list_all p (drop m more)) (sym room) ∙ parts.1

-- the words of the sectors before one, its own, and those behind it
pub words-more : (v : Version) (bytes list : List ℕ) (i : ℕ) → i < length list
    → fat_words v bytes (take (i + 1) list) ≡ fat_words v bytes (take i list) ++ sector_words v bytes (get_or list i 0)
words-more v bytes list i lt =
    ap (fat_words v bytes) (take_more list i 0 lt) ∙ flat_map-append (sector_words v bytes) (take i list) (get_or list i 0 ∷ [])
    ∙ ap (λ (ys : List ℕ). fat_words v bytes (take i list) ++ ys) (append-nil (sector_words v bytes (get_or list i 0)))

pub words-split : (v : Version) (bytes list : List ℕ) (i : ℕ) → i < length list
    → fat_words v bytes list ≡ (fat_words v bytes (take i list) ++ sector_words v bytes (get_or list i 0)) ++ fat_words v bytes (drop (i + 1) list)
words-split v bytes list i lt =
    ap (fat_words v bytes) (sym (take-append-drop (i + 1) list)) ∙ flat_map-append (sector_words v bytes) (take (i + 1) list) (drop (i + 1) list)
    ∙ ap (λ (ys : List ℕ). ys ++ fat_words v bytes (drop (i + 1) list)) (words-more v bytes list i lt)

-- one sector of the list more, for which there is room for so many words
module _ (validation : Validation) (n : ℕ) (v : Version) (bytes list : List ℕ) (i : ℕ) (kept : List ℕ) (room : ℕ) (lt : i < length list)
    (k : KeepsWords validation n (fat_words v bytes (take i list)) kept) (is_room : room ≡ n - length kept) where
  abbrev own : List ℕ
  own = sector_words v bytes (get_or list i 0)

  pub sector-kept : (now : List ℕ) → now ≡ kept ++ take room own → list_all (is_padding_in validation) (drop room own) ≡ true
      → KeepsWords validation n (fat_words v bytes (take (i + 1) list)) now
  sector-kept now is padding =
      subst (λ (ws : List ℕ). KeepsWords validation n ws now) (sym (words-more v bytes list i lt))
      (keeps-more validation n (fat_words v bytes (take i list)) kept own k now (is ∙ ap (λ m. kept ++ take m own) is_room)
      (ap (λ m. list_all (is_padding_in validation) (drop m own)) (sym is_room) ∙ padding))

  -- in a FAT whose words are acceptable those of this sector are
  pub sector-padded : list_all (is_padding_in validation) (drop n (fat_words v bytes list)) ≡ true → list_all (is_padding_in validation) (drop room own) ≡ true
  sector-padded all =
      ap (λ m. list_all (is_padding_in validation) (drop m own)) is_room
      ∙ padding-next validation n (fat_words v bytes (take i list)) kept own k (fat_words v bytes (drop (i + 1) list))
      (ap (λ (ws : List ℕ). list_all (is_padding_in validation) (drop n ws)) (sym (words-split v bytes list i lt)) ∙ all)

-- where the first sectors have so many words already, those behind are not asked for
pub first-enough : (v : Version) (bytes list : List ℕ) (i n : ℕ) (words : List ℕ) → words ≡ fat_words v bytes (take i list) → n ≤ length words
    → take n words ≡ take n (fat_words v bytes list)
first-enough v bytes list i n words is enough =
    let all : fat_words v bytes list ≡ words ++ fat_words v bytes (drop i list) =
    ap (fat_words v bytes) (sym (take-append-drop i list)) ∙ flat_map-append (sector_words v bytes) (take i list) (drop i list)
    ∙ ap (λ (ws : List ℕ). ws ++ fat_words v bytes (drop i list)) (sym is) in
    sym (ap (take n) all ∙ take-append-le n words (fat_words v bytes (drop i list)) enough)
