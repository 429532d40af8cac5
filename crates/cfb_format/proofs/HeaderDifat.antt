-- The header's entries of the DIFAT, one after the other.
use Rattle.std.proofs.Common.{◌≡◌, ℕ, ◌+◌, ◌-◌, ◌*◌, ◌<◌, ◌≤◌, List, [], ◌∷◌, ◌++◌, Bool, true, false, refl, sym, ◌∙◌, ap, length, arith, get_or, take, drop, append-nil, append_assoc, cond, suc, set, replicate, length-take}
use Rattle.std.specs.Prelude.{◌&&◌, ◌==◌, not}
use Rattle.std.specs.List.{list_all, position_or_len}
use Rattle.std.specs.Int.{from_le_bytes, w32}
use Rattle.std.proofs.lemmas.List.{drop_more, drop_all, take_more, drop-drop, set-append_right}
use Rattle.std.proofs.lemmas.List.Folds.{list_all-append, list_all_more}
use Rattle.cfb_format.specs.Bytes.{words, word_at, is_regular, free_sector}
use Rattle.cfb_format.specs.Header.{entries_before_free, padded_difat}
use Rattle.cfb_format.proofs.Words.{words-at}

all-more : (p : ℕ → Bool) (xs : List ℕ) (i : ℕ) → i < length xs → list_all p (take i xs) ≡ true → p (get_or xs i 0) ≡ true → list_all p (take (i + 1) xs) ≡ true
all-more p xs i l a b = list_all_more p xs i 0 l ∙ (λ j. a j && b j)

free-here : (x : ℕ) (xs : List ℕ) → (x == free_sector) ≡ true → entries_before_free (x ∷ xs) ≡ []
free-here x xs e = ap (λ b. take (cond (not b) (1 + position_or_len (λ word. word == free_sector) xs) 0) (x ∷ xs)) e

free-later : (x : ℕ) (xs : List ℕ) → (x == free_sector) ≡ false → entries_before_free (x ∷ xs) ≡ x ∷ entries_before_free xs
free-later x xs e =
    ap (λ b. take (cond (not b) (1 + position_or_len (λ word. word == free_sector) xs) 0) (x ∷ xs)) e
    ∙ ap (λ n. take n (x ∷ xs)) (let o : 1 + position_or_len (λ word. word == free_sector) xs ≡ suc (position_or_len (λ word. word == free_sector) xs) = omega arith in o)

-- none of the first j is FREE, and all of them are numbers
pub record Passed (ws : List ℕ) (j : ℕ) : Type 0 where
  pub goes_on : entries_before_free ws ≡ take j ws ++ entries_before_free (drop j ws)
  pub numbers : list_all is_regular (take j ws) ≡ true

pub passed-none : (ws : List ℕ) → Passed ws 0
passed-none ws = record { goes_on = refl; numbers = refl }

pub passed-more : (ws : List ℕ) (j : ℕ) → Passed ws j → j < length ws → (get_or ws j 0 == free_sector) ≡ false → is_regular (get_or ws j 0) ≡ true
    → Passed ws (j + 1)
passed-more ws j p l nf r = record {
  goes_on = p.goes_on ∙ ap (λ xs. take j ws ++ entries_before_free xs) (drop_more ws j 0 l)
      ∙ ap (λ xs. take j ws ++ xs) (free-later (get_or ws j 0) (drop (j + 1) ws) nf)
      ∙ sym (append_assoc (take j ws) (get_or ws j 0 ∷ []) (entries_before_free (drop (j + 1) ws)))
      ∙ ap (λ xs. xs ++ entries_before_free (drop (j + 1) ws)) (sym (take_more ws j 0 l));
  numbers = all-more is_regular ws j l p.numbers r;
}

pub passed-free : (ws : List ℕ) (j : ℕ) → Passed ws j → j < length ws → (get_or ws j 0 == free_sector) ≡ true → entries_before_free ws ≡ take j ws
passed-free ws j p l f =
    p.goes_on ∙ ap (λ xs. take j ws ++ entries_before_free xs) (drop_more ws j 0 l)
    ∙ ap (λ xs. take j ws ++ xs) (free-here (get_or ws j 0) (drop (j + 1) ws) f) ∙ append-nil (take j ws)

pub passed-all : (ws : List ℕ) (j : ℕ) → Passed ws j → length ws ≤ j → entries_before_free ws ≡ take j ws
passed-all ws j p l = p.goes_on ∙ ap (λ xs. take j ws ++ entries_before_free xs) (drop_all j ws l) ∙ append-nil (take j ws)

false-part : (a b : Bool) → (a && (false && b)) ≡ true → ⊥
false-part true b e = cc
false-part false b e = cc

pub passed-bad : (ws : List ℕ) (j : ℕ) → Passed ws j → j < length ws → (get_or ws j 0 == free_sector) ≡ false → is_regular (get_or ws j 0) ≡ false
    → list_all is_regular (entries_before_free ws) ≡ true → ⊥
passed-bad ws j p l nf r all =
    let whole : entries_before_free ws ≡ take j ws ++ get_or ws j 0 ∷ entries_before_free (drop (j + 1) ws) =
    p.goes_on ∙ ap (λ xs. take j ws ++ entries_before_free xs) (drop_more ws j 0 l)
    ∙ ap (λ xs. take j ws ++ xs) (free-later (get_or ws j 0) (drop (j + 1) ws) nf) in
    false-part (list_all is_regular (take j ws)) (list_all is_regular (entries_before_free (drop (j + 1) ws)))
    (ap (λ b. list_all is_regular (take j ws) && (b && list_all is_regular (entries_before_free (drop (j + 1) ws)))) (sym r)
    ∙ sym (list_all-append is_regular (take j ws) (get_or ws j 0 ∷ entries_before_free (drop (j + 1) ws))) ∙ ap (list_all is_regular) (sym whole) ∙ all)

pub word-there : (bytes : List ℕ) (j : ℕ) → j < 109 → get_or (words 109 (drop 76 bytes)) j 0 ≡ word_at bytes (76 + 4 * j)
unfolding word_at
word-there bytes j l = words-at 109 (drop 76 bytes) j l ∙ ap (from_le_bytes w32) (drop-drop (4 * j) 76 bytes)

-- the first j entries and FREE behind them
abbrev pub filled : List ℕ → ℕ → List ℕ
filled ws j = take j ws ++ replicate (109 - j) free_sector

-- one entry more is set
pub filled-more : (ws : List ℕ) (j w : ℕ) → j < 109 → length ws ≡ 109 → w ≡ get_or ws j 0 → set (filled ws j) j w ≡ filled ws (j + 1)
filled-more ws j w l n e =
    let len : length (take j ws) ≡ j = omega (arith, length-take j ws) in
    let rest : 109 - j ≡ suc (109 - (j + 1)) = omega arith in
    ap (λ k. set (take j ws ++ replicate k free_sector) j w) rest
    ∙ set-append_right (take j ws) (free_sector ∷ replicate (109 - (j + 1)) free_sector) j j w len (omega arith)
    ∙ ap (λ k. take j ws ++ set (free_sector ∷ replicate (109 - (j + 1)) free_sector) k w) (let z : j - j ≡ 0 = omega arith in z)
    ∙ ap (λ v. take j ws ++ v ∷ replicate (109 - (j + 1)) free_sector) e
    ∙ sym (append_assoc (take j ws) (get_or ws j 0 ∷ []) (replicate (109 - (j + 1)) free_sector))
    ∙ ap (λ xs. xs ++ replicate (109 - (j + 1)) free_sector) (sym (take_more ws j 0 (omega (arith, n))))

-- that is the padding of the first j
pub padded-filled : (ws : List ℕ) (j : ℕ) → j ≤ 109 → length ws ≡ 109 → filled ws j ≡ padded_difat (take j ws)
padded-filled ws j l n = ap (λ k. take j ws ++ replicate (109 - k) free_sector) (let len : j ≡ length (take j ws) = omega (arith, length-take j ws) in len)
