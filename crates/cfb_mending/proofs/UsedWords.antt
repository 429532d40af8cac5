-- The types in the directory, and how many words of the MiniFAT are used.
use Rattle.std.proofs.Common.{◌≡◌, ◌<◌, ℕ, suc, ◌+◌, ◌*◌, List, [], ◌∷◌, ◌++◌, true, false, length, get_or, min, sym, ◌∙◌, ap, subst, arith, append_assoc, append-nil, add-one}
use Rattle.std.specs.Prelude.{◌&&◌, ◌==◌, if◌then◌else◌}
use Rattle.std.proofs.lemmas.Bool.{ne_eqb}
use Rattle.std.proofs.lemmas.Grind.{get_or_default_zero}
use Rattle.cfb_format.specs.declared.version.Version.{Version}
use Rattle.cfb_format.specs.Bytes.{word_at, sector_start, words_per_sector, free_sector}
use Rattle.cfb_mending.specs.Missing.{has_word, kind_at, kinds_from, used_in, used_words}

-- ---- the directory

pub kinds-none : (bytes : List ℕ) (from : ℕ) (old : List ℕ) → old ≡ old ++ kinds_from bytes from 0
unfolding kinds_from
kinds-none bytes from old = sym (append-nil old)

pub kinds-more : (bytes : List ℕ) (from k kind : ℕ) (old now new : List ℕ) → kind ≡ kind_at bytes (from + 128 * k) → now ≡ old ++ kinds_from bytes from k
    → new ≡ now ++ kind ∷ [] → new ≡ old ++ kinds_from bytes from (k + 1)
unfolding kinds_from
kinds-more bytes from k kind old now new kind-is now-is new-is =
    new-is ∙ (λ j. now-is j ++ kind-is j ∷ []) ∙ append_assoc old (kinds_from bytes from k) (kind_at bytes (from + 128 * k) ∷ [])
    ∙ ap (λ (n : ℕ). old ++ kinds_from bytes from n) (sym (add-one k))

-- ---- the MiniFAT

pub used-free : (bytes : List ℕ) (from k : ℕ) → (has_word bytes (from + 4 * k) && (word_at bytes (from + 4 * k) == free_sector)) ≡ true → used_in bytes from (suc k) ≡ used_in bytes from k
unfolding used_in
used-free bytes from k e = λ j. if e j then used_in bytes from k else suc k

pub used-here : (bytes : List ℕ) (from k : ℕ) → (has_word bytes (from + 4 * k) && (word_at bytes (from + 4 * k) == free_sector)) ≡ false → used_in bytes from (suc k) ≡ suc k
unfolding used_in
used-here bytes from k e = λ j. if e j then used_in bytes from k else suc k

pub used-none : (bytes : List ℕ) (from k : ℕ) → k ≡ 0 → used_in bytes from k ≡ 0
unfolding used_in
used-none bytes from k e = ap (λ (n : ℕ). used_in bytes from n) e

pub words-none : (version : Version) (bytes minifat : List ℕ) (k : ℕ) → k ≡ 0 → used_words version bytes minifat k ≡ 0
unfolding used_words
words-none version bytes minifat k e = ap (λ (n : ℕ). used_words version bytes minifat n) e

abbrev used-of : Version → List ℕ → List ℕ → ℕ → ℕ
used-of version bytes minifat k = used_in bytes (sector_start version (get_or minifat k 0)) (words_per_sector version)

test-zero : (n : ℕ) → n ≡ 0 → (n == 0) ≡ true
test-zero n e = λ j. e j == 0

test-some : (n : ℕ) → 0 < n → (n == 0) ≡ false
test-some n l = ne_eqb n 0 (λ e. omega (arith, l, e))

pub words-unused : (version : Version) (bytes minifat : List ℕ) (k : ℕ) → used-of version bytes minifat k ≡ 0
    → used_words version bytes minifat (suc k) ≡ used_words version bytes minifat k
unfolding used_words
words-unused version bytes minifat k e = λ j.
    if test-zero (used-of version bytes minifat k) e j then used_words version bytes minifat k else k * words_per_sector version + used-of version bytes minifat k

pub words-used : (version : Version) (bytes minifat : List ℕ) (k : ℕ) → 0 < used-of version bytes minifat k
    → used_words version bytes minifat (suc k) ≡ k * words_per_sector version + used-of version bytes minifat k
unfolding used_words
words-used version bytes minifat k l = λ j.
    if test-some (used-of version bytes minifat k) l j then used_words version bytes minifat k else k * words_per_sector version + used-of version bytes minifat k

pub sum-capped : (before here x y : ℕ) → x ≡ min before 18446744073709551615 → y ≡ min (x + here) 18446744073709551615 → y ≡ min (before + here) 18446744073709551615
sum-capped before here x y x-is y-is = omega (arith, x-is, y-is)

used-zero : (version : Version) (bytes minifat : List ℕ) (k x used words : ℕ) → k < length minifat → used ≡ used_in bytes (sector_start version (get_or minifat k x)) words
    → words ≡ words_per_sector version → used ≡ used-of version bytes minifat k
used-zero version bytes minifat k x used words inside is words-is =
    is ∙ (λ j. used_in bytes (sector_start version (get_or_default_zero minifat k x inside j)) (words-is j))

pub words-pass : (version : Version) (bytes minifat : List ℕ) (k x used words count all : ℕ) → k < length minifat → suc k ≡ count
    → used ≡ used_in bytes (sector_start version (get_or minifat k x)) words → words ≡ words_per_sector version → used ≡ 0
    → used_words version bytes minifat count ≡ all → used_words version bytes minifat k ≡ all
words-pass version bytes minifat k x used words count all inside one is words-is none rest =
    sym (words-unused version bytes minifat k (sym (used-zero version bytes minifat k x used words inside is words-is) ∙ none))
    ∙ ap (λ (n : ℕ). used_words version bytes minifat n) one ∙ rest

pub words-stop : (version : Version) (bytes minifat : List ℕ) (k x used words count all before sum : ℕ) → k < length minifat → suc k ≡ count
    → used ≡ used_in bytes (sector_start version (get_or minifat k x)) words → words ≡ words_per_sector version → 0 < used
    → before ≡ min (k * words) 18446744073709551615 → sum ≡ min (before + used) 18446744073709551615
    → used_words version bytes minifat count ≡ all → sum ≡ min all 18446744073709551615
words-stop version bytes minifat k x used words count all before sum inside one is words-is some before-is sum-is rest =
    let here = used-zero version bytes minifat k x used words inside is words-is in
    let whole : used_words version bytes minifat count ≡ k * words_per_sector version + used =
    ap (λ (n : ℕ). used_words version bytes minifat n) (sym one) ∙ words-used version bytes minifat k (subst (λ (n : ℕ). 0 < n) here some)
    ∙ ap (λ (n : ℕ). k * words_per_sector version + n) (sym here) in
    sum-capped (k * words_per_sector version) used before sum (before-is ∙ ap (λ (n : ℕ). min (k * n) 18446744073709551615) words-is) sum-is
    ∙ ap (λ (n : ℕ). min n 18446744073709551615) (sym whole ∙ rest)
