-- The words of the MiniFAT, sector by sector (MS-CFB 2.4).
use Rattle.std.proofs.Common.{◌≡◌, ◌≤◌, ◌<◌, ◌+◌, ◌*◌, ◌/◌, ℕ, zero, suc, List, [], ◌∷◌, ◌++◌, Bool, true, refl, sym, ◌∙◌, ap, subst, length, take, drop, arith, append-nil, append_assoc}
use Rattle.std.specs.Int.{from_le_bytes, w32}
use Rattle.std.specs.Prelude.{IsTrue, flat_map, slice_index, ◌&&◌}
use Rattle.std.specs.List.{list_all}
use Rattle.std.proofs.lemmas.List.{drop-drop, take_all, take_more}
use Rattle.std.proofs.lemmas.Grind.{flat_map-append}
use Rattle.std.proofs.lemmas.List.Folds.{list_all-append}
use Rattle.cfb_format.specs.declared.version.Version.{Version}
use Rattle.cfb_format.specs.Bytes.{is_whole_sector, sector_bytes, sector_len, sector_start, sector_words, word_at, words, words_per_sector}
use Rattle.cfb_format.specs.Chain.{IsChain}
use Rattle.cfb_format.proofs.Unique.{IsChain-unique}
use Rattle.cfb_reading.specs.ReadMinifat.{HasMinifatWords, NoMinifatWords}
use Rattle.cfb_reading.proofs.AllWhole.{whole-at}
use Rattle.cfb_sectors.proofs.ReadWords.{words_fit, words_of_part}
use Rattle.cfb_format.proofs.Words.{words-length}
use Rattle.cfb_sectors.proofs.FreshLemmas.{word_count}

words-one-more : (k : ℕ) (bytes : List ℕ) → words (k + 1) bytes ≡ words k bytes ++ from_le_bytes w32 (drop (4 * k) bytes) ∷ []
unfolding words
words-one-more zero bytes = refl
words-one-more (suc k) bytes =
    ap (λ n. words n bytes) (let e : suc k + 1 ≡ suc (k + 1) = omega arith in e)
    ∙ ap (λ xs. from_le_bytes w32 bytes ∷ xs) (words-one-more k (drop 4 bytes)
    ∙ ap (λ xs. words k (drop 4 bytes) ++ from_le_bytes w32 xs ∷ []) (drop-drop (4 * k) 4 bytes ∙ ap (λ n. drop n bytes) (let e : 4 + 4 * k ≡ 4 * suc k = omega arith in e)))

-- one more word behind those before it
pub appended-word : (k : ℕ) (bytes front now : List ℕ) (word : ℕ) → now ≡ front ++ words k bytes → word ≡ word_at bytes (4 * k)
    → now ++ word ∷ [] ≡ front ++ words (k + 1) bytes
unfolding word_at
appended-word k bytes front now word is w =
    ap (λ xs. xs ++ word ∷ []) is ∙ append_assoc front (words k bytes) (word ∷ [])
    ∙ ap (λ x. front ++ (words k bytes ++ x ∷ [])) w ∙ ap (λ xs. front ++ xs) (sym (words-one-more k bytes))

-- no word yet
pub no-word : (bytes front : List ℕ) → front ≡ front ++ words 0 bytes
unfolding words
no-word bytes front = sym (append-nil front)

-- the steps of a loop over words
pub ruleset appended_words = (no-word, appended-word)

-- ---- the words of a sector's bytes

pub sector-words-read : (v : Version) (file : List ℕ) (i : ℕ) (bytes : List ℕ) → length bytes ≡ sector_len v → bytes ≡ sector_bytes v file i
    → words (length bytes / 4) bytes ≡ sector_words v file i
sector-words-read v file i bytes whole is =
    ap (λ n. words (n / 4) bytes) whole ∙ ap (λ n. words n bytes) (word_count v) ∙ ap (words (words_per_sector v)) is
    ∙ words_of_part (words_per_sector v) file (sector_start v i) (sector_len v) (words_fit v)

pub sector-words-count : (v : Version) (bytes : List ℕ) → length bytes ≡ sector_len v → length (words (length bytes / 4) bytes) ≡ words_per_sector v
sector-words-count v bytes whole = words-length (length bytes / 4) bytes ∙ ap (λ n. n / 4) whole ∙ word_count v

-- ---- sector by sector

-- what the sectors so far have given: their words where the medium serves what it holds, and all of them are whole where the file is
-- measured
pub record HasReadWords (tells : Bool) (measured : Type 0) (version : Version) (bytes sectors all : List ℕ) : Type 0 where
  pub words : IsTrue tells → all ≡ flat_map (sector_words version bytes) sectors
  pub whole : IsTrue tells → measured → list_all (is_whole_sector version bytes) sectors ≡ true

module _ (tells : Bool) (measured : Type 0) (version : Version) (bytes : List ℕ) where
  pub words-none : HasReadWords tells measured version bytes [] []
  words-none = record { words = λ _. refl; whole = λ _ _. refl }

  words-one : (sectors : List ℕ) (i : ℕ) (old new : List ℕ) → (IsTrue tells → new ≡ old ++ sector_words version bytes i)
      → (IsTrue tells → measured → is_whole_sector version bytes i ≡ true)
      → HasReadWords tells measured version bytes sectors old → HasReadWords tells measured version bytes (sectors ++ i ∷ []) new
  words-one sectors i old new words whole h = record {
    words = λ t. words t ∙ ap (λ xs. xs ++ sector_words version bytes i) (h.words t)
        ∙ ap (λ xs. flat_map (sector_words version bytes) sectors ++ xs) (sym (append-nil (sector_words version bytes i)))
        ∙ sym (flat_map-append (sector_words version bytes) sectors (i ∷ []));
    whole = λ t m. list_all-append (is_whole_sector version bytes) sectors (i ∷ []) ∙ both (h.whole t m) (whole t m);
  }
    where
      both : {a b : Bool} → a ≡ true → b ≡ true → (a && (b && true)) ≡ true
      both p q = λ j. p j && (q j && true)

  -- the words of the sector with the next index were read
  pub words-more : (v : Version) (bytes' all : List ℕ) (i : ℕ) (old new : List ℕ) → v ≡ version → (IsTrue tells → bytes' ≡ bytes) → i < length all
      → (IsTrue tells → new ≡ old ++ sector_words v bytes' (slice_index all i)) → (IsTrue tells → measured → is_whole_sector v bytes' (slice_index all i) ≡ true)
      → HasReadWords tells measured version bytes (take i all) old → HasReadWords tells measured version bytes (take (i + 1) all) new
  words-more v bytes' all i old new same_version same lt words whole h =
      let n = slice_index all i in
      subst (λ (xs : List ℕ). HasReadWords tells measured version bytes xs new) (sym (take_more all i 0 lt))
      (words-one (take i all) n old new
      (λ t. words t ∙ ap (λ xs. old ++ xs) (λ j. sector_words (same_version j) (same t j) n))
      (λ t m. sym (λ j. is_whole_sector (same_version j) (same t j) n) ∙ whole t m) h)

  -- ---- all of them

  pub words-all : (fat : List ℕ) (start : ℕ) (all found : List ℕ) (n : ℕ) → IsChain fat start all → length all ≤ n
      → HasReadWords tells measured version bytes (take n all) found → IsTrue tells → measured
      → (sectors : List ℕ) → IsChain fat start sectors → HasMinifatWords version bytes fat start sectors found
  words-all fat start all found n chain past h t m sectors other =
      let same : take n all ≡ sectors = take_all n all past ∙ IsChain-unique fat start all sectors chain other in
      record {
        chain = other;
        whole = ap (list_all (is_whole_sector version bytes)) (sym same) ∙ h.whole t m;
        words = h.words t ∙ ap (flat_map (sector_words version bytes)) same;
      }

-- a sector of the chain is cut short
pub no-words : (v w : Version) (bytes bytes' fat : List ℕ) (start : ℕ) (all : List ℕ) (i : ℕ) → IsChain fat start all → i < length all → w ≡ v → bytes' ≡ bytes
    → (is_whole_sector w bytes' (slice_index all i) ≡ true → ⊥) → NoMinifatWords v bytes fat start
no-words v w bytes bytes' fat start all i chain lt same_version same cut sectors words h =
    let list : sectors ≡ all = IsChain-unique fat start sectors all h.chain chain in
    cut ((λ j. is_whole_sector (same_version j) (same j) (slice_index all i))
    ∙ whole-at v bytes all i lt (ap (list_all (is_whole_sector v bytes)) (sym list) ∙ h.whole))
