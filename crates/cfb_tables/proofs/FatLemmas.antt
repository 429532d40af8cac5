-- The FAT as it is made out of words, step by step.
use Rattle.std.proofs.Common.{◌≡◌, ℕ, ◌+◌, ◌-◌, ◌<◌, inl, inr, Bool, true, false, cond, List, [], ◌∷◌, ◌++◌, length, map, set, take, drop, get_or, refl, sym, ◌∙◌, ap, subst, arith, length-set, take-append-drop, append-nil}
use Rattle.std.specs.Prelude.{Contains, nat_eq, nat_le, ◌&&◌, if◌then◌else◌, slice_index, slice_index_or, replicate, IsTrue}
use Rattle.std.specs.List.{IsDistinct, filter, range_with_len}
use Rattle.std.proofs.Math.Seq.{get_or-append_right}
use Rattle.std.proofs.lemmas.Bool.{cases_eq, cases_lt, leb-false, lt-leb}
use Rattle.std.proofs.lemmas.List.{get_or_past, get_or-set_same, get_or-set_other, get_or-replicate, get_or-map, get_or_append_left, length-map, length-replicate, take_all, drop_all}
use Rattle.std.proofs.lemmas.List.Elements.{Contains-append_left, Contains-append_right, Contains-append_cases, filter_more, filter-append}
use Rattle.std.proofs.lemmas.List.FromFn.{fill_by_all, length-map-range_with_len, get_or-map-range_with_len}
use Rattle.cfb_format.specs.Bytes.{is_regular, max_regular_sector, free_sector, end_of_chain, fat_sector, difat_sector}
use Rattle.cfb_format.specs.Fat.{fat_value, is_among, ended_past_file, HasDistinctPointers}
use Rattle.cfb_tables.specs.Changes.{PointsWithin}
use Rattle.cfb_tables.specs.ReadFat.{fat_of_words}
use Rattle.cfb_format.proofs.Walks.{regular-le}
use Rattle.cfb_format.proofs.Members.{Contains-nil, Contains-here, Contains-one, none_distinct, distinct-push, distinct-left, distinct-apart}

-- ---- which sectors were pointed to so far

-- a place of the list is true exactly if one of the first i values points there
pub record NamedSoFar (fat : List ℕ) (i : ℕ) (named : List Bool) : Type 0 where
  pub len : length named ≡ length fat
  pub once : IsDistinct nat_eq (filter is_regular (take i fat))
  pub sound : (k : ℕ) → get_or named k false ≡ true → Contains (filter is_regular (take i fat)) k
  pub complete : (k : ℕ) → Contains (filter is_regular (take i fat)) k → get_or named k false ≡ true

alike : {X : Type 0} (n k : ℕ) (x : X) → get_or (replicate n x) k x ≡ x
alike n k x = elim (cases_lt k n) [
  | inl lt ↦ get_or-replicate n k x x lt
  | inr ge ↦ get_or_past (replicate n x) k x (let len = length-replicate n x in omega (arith, ge, len))
]

pub named-none : (fat : List ℕ) (named : List Bool) → named ≡ replicate (length fat) false → NamedSoFar fat 0 named
named-none fat named is = record {
  len = ap length is ∙ length-replicate (length fat) false;
  once = none_distinct;
  sound = λ k e. let f : true ≡ false = sym e ∙ (ap (λ (z : List Bool). get_or z k false) is ∙ alike (length fat) k false) in cc;
  complete = λ k m. absurd (Contains-nil k m);
}

module _ (fat : List ℕ) (i x : ℕ) (named : List Bool) (lt : i < length fat) (is : x ≡ get_or fat i 0) (so_far : NamedSoFar fat i named) where
  abbrev seen : List ℕ
  seen = filter is_regular (take i fat)

  after : (b : Bool) → is_regular x ≡ b → filter is_regular (take (i + 1) fat) ≡ seen ++ cond b (x ∷ []) []
  after b r = filter_more is_regular fat i 0 lt ∙ ap (λ (z : ℕ). seen ++ cond (is_regular z) (z ∷ []) []) (sym is) ∙ ap (λ (z : Bool). seen ++ cond z (x ∷ []) []) r

  -- a word that is no pointer
  pub named-skip : is_regular x ≡ false → NamedSoFar fat (i + 1) named
  named-skip mark =
      let same : filter is_regular (take (i + 1) fat) ≡ seen = after false mark ∙ append-nil seen in
      record {
        len = so_far.len;
        once = subst (IsDistinct nat_eq) (sym same) so_far.once;
        sound = λ k e. subst (λ (z : List ℕ). Contains z k) (sym same) (so_far.sound k e);
        complete = λ k m. so_far.complete k (subst (λ (z : List ℕ). Contains z k) same m);
      }

  -- a pointer to a sector that none of them points to
  pub named-more : is_regular x ≡ true → x < length fat → get_or named x false ≡ false → NamedSoFar fat (i + 1) (set named x true)
  named-more pointer below fresh =
      let same : filter is_regular (take (i + 1) fat) ≡ seen ++ x ∷ [] = after true pointer in
      let len = so_far.len in
      let lx : x < length named = omega (arith, below, len) in
      let out : Contains seen x → ⊥ = λ m. let f : true ≡ false = sym (so_far.complete x m) ∙ fresh in cc in
      record {
        len = length-set named x true ∙ len;
        once = subst (IsDistinct nat_eq) (sym same) (distinct-push seen x so_far.once out);
        sound = λ k e. subst (λ (z : List ℕ). Contains z k) (sym same) (elim (cases_eq k x) [
          | inl at ↦ subst (Contains (seen ++ x ∷ [])) (sym at) (Contains-append_right seen (x ∷ []) x (Contains-here x []))
          | inr ne ↦ Contains-append_left seen (x ∷ []) k (so_far.sound k (sym (get_or-set_other named x k true false ne) ∙ e))
        ]);
        complete = λ k m. elim (cases_eq k x) [
          | inl at ↦ ap (λ (z : ℕ). get_or (set named x true) z false) at ∙ get_or-set_same named x true false lx
          | inr ne ↦ get_or-set_other named x k true false ne ∙ so_far.complete k (elim (Contains-append_cases seen (x ∷ []) k (subst (λ (z : List ℕ). Contains z k) same m)) [
            | inl l ↦ l
            | inr r ↦ absurd (ne (sym (Contains-one x k r)))
          ])
        ];
      }

  -- a pointer to a sector that one of them points to
  pub named-twice : is_regular x ≡ true → get_or named x false ≡ true → HasDistinctPointers fat → ⊥
  named-twice pointer known distinct =
      let whole : filter is_regular fat ≡ (seen ++ x ∷ []) ++ filter is_regular (drop (i + 1) fat) =
      ap (filter is_regular) (sym (take-append-drop (i + 1) fat)) ∙ filter-append is_regular (take (i + 1) fat) (drop (i + 1) fat)
      ∙ ap (λ (z : List ℕ). z ++ filter is_regular (drop (i + 1) fat)) (after true pointer) in
      let front = distinct-left (seen ++ x ∷ []) (filter is_regular (drop (i + 1) fat)) (subst (IsDistinct nat_eq) whole distinct) in
      distinct-apart seen (x ∷ []) front x (so_far.sound x known) (Contains-here x [])

pub no-pointer : (w : ℕ) → max_regular_sector < w → is_regular w ≡ false
no-pointer w above = lt-leb w max_regular_sector above

-- ---- marks

-- each of these sectors has the mark, and any other one its value
abbrev pub Marked : List ℕ → List ℕ → List ℕ → ℕ → Type 0
Marked old now listed m = (i : ℕ) → i < length old → get_or now i 0 ≡ cond (is_among listed i) m (get_or old i 0)

-- ---- values

module _ (n : ℕ) (list own : List ℕ) where
  -- the pointers end at the file's end, then the marks are set
  pub values-set : (old within owned all : List ℕ) → length old ≡ n → within ≡ map (ended_past_file n) old → length all ≡ n
      → Marked within owned own difat_sector → Marked owned all list fat_sector → length owned ≡ n → all ≡ map (fat_value n list own old) (range_with_len 0 n)
  values-set old within owned all len is all_len own_marks marks owned_len =
      let w_len : length within ≡ n = ap length is ∙ length-map old (ended_past_file n) ∙ len in
      fill_by_all (fat_value n list own old) all n 0 all_len (λ k lt.
      marks k (omega (arith, lt, owned_len))
      ∙ ap (λ z. cond (is_among list k) fat_sector z) (own_marks k (omega (arith, lt, w_len))
      ∙ ap (λ z. cond (is_among own k) difat_sector z)
      (ap (λ (z : List ℕ). get_or z k 0) is ∙ get_or-map (ended_past_file n) old k free_sector 0 (omega (arith, lt, len)))))

  mark-is-none : (w mark : ℕ) → max_regular_sector < mark → w ≡ mark → IsTrue (is_regular w) → ⊥
  mark-is-none w mark above e r = let le = regular-le w r in omega (arith, le, above, e)

  -- a pointer among the values is below n
  pub value-within : (raw : List ℕ) (i : ℕ) → IsTrue (is_regular (fat_value n list own raw i)) → fat_value n list own raw i < n
  value-within raw i = go (is_among list i) (is_among own i)
    where
      word : (w : ℕ) (b c : Bool) → is_regular w ≡ b → nat_le n w ≡ c → IsTrue (is_regular (if b && c then end_of_chain else w)) → (if b && c then end_of_chain else w) < n
      word w true true e f r = absurd (mark-is-none end_of_chain end_of_chain (omega arith) refl r)
      word w true false e f r = let lt = leb-false n w f in omega (arith, lt)
      word w false c e f r = let g : true ≡ false = sym r ∙ e in cc

      go : (b c : Bool) → IsTrue (is_regular (if b then fat_sector else if c then difat_sector else ended_past_file n (slice_index_or raw i free_sector)))
          → (if b then fat_sector else if c then difat_sector else ended_past_file n (slice_index_or raw i free_sector)) < n
      go true c r = absurd (mark-is-none fat_sector fat_sector (omega arith) refl r)
      go false true r = absurd (mark-is-none difat_sector difat_sector (omega arith) refl r)
      go false false r = let w = slice_index_or raw i free_sector in word w (is_regular w) (nat_le n w) refl refl r

-- places past the words read as FREE, whether they were filled up or not
pub filled-same : (n m : ℕ) (words : List ℕ) (i : ℕ) → slice_index_or (take n words ++ replicate m free_sector) i free_sector ≡ slice_index_or (take n words) i free_sector
filled-same n m words i = elim (cases_lt i (length (take n words))) [
  | inl lt ↦ get_or_append_left (take n words) (replicate m free_sector) free_sector i lt
  | inr ge ↦ get_or-append_right (take n words) (replicate m free_sector) i free_sector ge ∙ alike m (i - length (take n words)) free_sector
      ∙ sym (get_or_past (take n words) i free_sector ge)
]

-- so the values are those of the words; `was` is filled up, and all of it is written over
pub values-made : (n k m : ℕ) (list own words was items all : List ℕ) → was ≡ items → items ≡ take n words ++ replicate m free_sector → length was ≡ n → k ≡ n
    → all ≡ map (fat_value (length was) list own was) (range_with_len 0 (length was)) → take k (all ++ drop (length all) items) ≡ fat_of_words n words list own
values-made n k m list own words was items all is filled len count values =
    let f = fat_value (length was) list own was in
    let all_len : length all ≡ n = ap length values ∙ length-map-range_with_len f 0 (length was) ∙ len in
    let same : length was ≡ length items = ap length is in
    let rest : drop (length all) items ≡ [] = drop_all (length all) items (omega (arith, all_len, same, len)) in
    ap (λ (z : List ℕ). take k (all ++ z)) rest ∙ ap (take k) (append-nil all) ∙ take_all k all (omega (arith, all_len, count)) ∙ values
    ∙ (λ j. map (fat_value (len j) list own ((is ∙ filled) j)) (range_with_len 0 (len j)))
    ∙ (λ j. map (λ i. if is_among list i then fat_sector else if is_among own i then difat_sector else ended_past_file n (filled-same n m words i j)) (range_with_len 0 n))

pub values-within : (n : ℕ) (words list own fat : List ℕ) → fat ≡ fat_of_words n words list own → PointsWithin fat
values-within n words list own fat is i lt r =
    let f = fat_value n list own (take n words) in
    let len : length fat ≡ n = ap length is ∙ length-map-range_with_len f 0 n in
    let at : slice_index fat i ≡ f i = ap (λ (z : List ℕ). slice_index z i) is ∙ get_or-map-range_with_len f 0 n i i 0 (omega (arith, lt, len)) (omega arith) in
    let below = value-within n list own (take n words) i (subst (λ w. IsTrue (is_regular w)) at r) in
    omega (arith, below, at, len)
