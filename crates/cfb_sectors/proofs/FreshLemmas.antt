-- Fresh sectors: the same bytes again and again.
use Rattle.std.proofs.Common.{refl, zero, suc, ◌≡◌, ℕ, ◌+◌, ◌-◌, ◌*◌, ◌/◌, ◌<◌, ◌≤◌, List, [], ◌∷◌, ◌++◌, length, take, drop, replicate, sym, ◌∙◌, ap, ap₂, arith, append_assoc, append-nil, add-one}
use Rattle.std.proofs.lemmas.List.{take_all, take-append-drop, take-replicate}
use Rattle.std.specs.Int.{to_le_bytes, w32}
use Rattle.cfb_format.specs.Bytes.{word_bytes, unit_bytes, sector_len, words_per_sector, entries_per_sector, free_sector, end_of_chain}
use Rattle.cfb_format.specs.DirectoryEntry.{entry_bytes, unallocated_entry}
use Rattle.cfb_format.specs.declared.version.Version.{Version}
use Rattle.cfb_format.specs.declared.version.Version.TheVariants.{V3, V4}
use Rattle.cfb_sectors.specs.Sectors.{copies, init_bytes}
use Rattle.cfb_sectors.specs.declared.sector.SectorInit.TheVariants.{Zero, Fat, Difat, Dir}
use Rattle.cfb_format.proofs.Writing.{word_bytes-append}

-- one copy more
copies_suc : (i : ℕ) (xs : List ℕ) → copies (suc i) xs ≡ copies i xs ++ xs
copies_suc zero xs = append-nil xs
copies_suc (suc i) xs = ap (λ (ys : List ℕ). xs ++ ys) (copies_suc i xs) ∙ sym (append_assoc xs (copies i xs) xs)

pub copies_more : (i : ℕ) (xs : List ℕ) → copies (i + 1) xs ≡ copies i xs ++ xs
copies_more i xs = ap (λ n. copies n xs) (add-one i) ∙ copies_suc i xs

-- there is room for one copy more
pub copies_fit : (i k n len : ℕ) → i < k → k * n ≤ len → i * n + n ≤ len
copies_fit i k n len low whole = grind arith

-- the same word again and again
pub word_bytes-replicate : (k v : ℕ) → word_bytes (replicate k v) ≡ copies k (to_le_bytes w32 v)
unfolding word_bytes
word_bytes-replicate zero v = refl
word_bytes-replicate (suc k) v = ap (λ (ys : List ℕ). to_le_bytes w32 v ++ ys) (word_bytes-replicate k v)

-- how many words a sector holds
pub word_count : (v : Version) → sector_len v / 4 ≡ words_per_sector v
word_count V3 = refl
word_count V4 = refl

pub words_fill : (v : Version) → words_per_sector v * 4 ≡ sector_len v
words_fill V3 = refl
words_fill V4 = refl

pub entries_fill : (v : Version) → entries_per_sector v * 128 ≡ sector_len v
entries_fill V3 = refl
entries_fill V4 = refl

-- all of a list was put
pub whole : (n : ℕ) (new xs : List ℕ) → n ≡ length new → take n new ≡ xs → new ≡ xs
whole n new xs all put = sym (take_all n new (omega arith)) ∙ put

pub fat_filled : (v : Version) (k n : ℕ) (new : List ℕ) → k ≡ sector_len v / 4 → n ≡ k * 4 → length new ≡ sector_len v
    → take n new ≡ copies k (to_le_bytes w32 free_sector) → new ≡ init_bytes v Fat
unfolding init_bytes
fat_filled v k n new words end len put =
    let count : k ≡ words_per_sector v = words ∙ word_count v in
    let fills = words_fill v in
    whole n new _ (omega (arith, count, fills)) put ∙ ap (λ m. copies m (to_le_bytes w32 free_sector)) count ∙ sym (word_bytes-replicate (words_per_sector v) free_sector)

pub difat_filled : (v : Version) (k m n : ℕ) (mid new : List ℕ) → k ≡ sector_len v / 4 → m ≡ (k - 1) * 4 → n ≡ m + 4 → length new ≡ sector_len v
    → take m mid ≡ copies (k - 1) (to_le_bytes w32 free_sector) → take n new ≡ take m mid ++ to_le_bytes w32 end_of_chain → new ≡ init_bytes v Difat
unfolding init_bytes word_bytes
difat_filled v k m n mid new words end next len before put =
    let count : k ≡ words_per_sector v = words ∙ word_count v in
    let fills = words_fill v in
    let end_word = to_le_bytes w32 end_of_chain in
    whole n new _ (all v k m n (length new) count end next len) put
    ∙ ap (λ (xs : List ℕ). xs ++ end_word) (before ∙ ap (λ j. copies (j - 1) (to_le_bytes w32 free_sector)) count ∙ sym (word_bytes-replicate (words_per_sector v - 1) free_sector))
    ∙ ap (λ (xs : List ℕ). word_bytes (replicate (words_per_sector v - 1) free_sector) ++ xs) (sym (append-nil end_word))
    ∙ sym (word_bytes-append (replicate (words_per_sector v - 1) free_sector) (end_of_chain ∷ []))
  where
    all : (v : Version) (k m n len : ℕ) → k ≡ words_per_sector v → m ≡ (k - 1) * 4 → n ≡ m + 4 → len ≡ sector_len v → n ≡ len
    all V3 k m n len count end next whole = omega arith
    all V4 k m n len count end next whole = omega arith

length-unallocated : length (entry_bytes unallocated_entry) ≡ 128
unfolding entry_bytes unit_bytes
length-unallocated = refl

pub dir_filled : (v : Version) (k n : ℕ) (slot new : List ℕ) → k ≡ entries_per_sector v → slot ≡ entry_bytes unallocated_entry → n ≡ k * length slot → length new ≡ sector_len v
    → take n new ≡ copies k slot → new ≡ init_bytes v Dir
unfolding init_bytes
dir_filled v k n slot new count free end len put =
    let room : k * length slot ≡ sector_len v = ap₂ (λ m l. m * l) count (ap (λ (xs : List ℕ). length xs) free ∙ length-unallocated) ∙ entries_fill v in
    whole n new _ (end ∙ room ∙ sym len) put ∙ ap₂ (λ m (xs : List ℕ). copies m xs) count free

-- zeros
copies-replicate : (k v : ℕ) → copies k (v ∷ []) ≡ replicate k v
copies-replicate zero v = refl
copies-replicate (suc k) v = ap (λ (xs : List ℕ). v ∷ xs) (copies-replicate k v)

pub zero_filled : (v : Version) (k n : ℕ) (new : List ℕ) → k ≡ sector_len v → n ≡ k * 1 → length new ≡ sector_len v → take n new ≡ copies k (0 ∷ []) → new ≡ init_bytes v Zero
unfolding init_bytes
zero_filled v k n new count end len put = whole n new _ (omega (arith, count, end, len)) put ∙ copies-replicate k 0 ∙ ap (λ m. replicate {A = ℕ} m 0) count

-- zeros need no filling
sector_short : (v : Version) → sector_len v ≤ 4096
sector_short V3 = omega arith
sector_short V4 = omega arith

pub zeros_fresh : (v : Version) (zeros : List ℕ) → zeros ≡ replicate 4096 0 → take (sector_len v) zeros ≡ init_bytes v Zero
unfolding init_bytes
zeros_fresh v zeros is = ap (take (sector_len v)) is ∙ take-replicate (sector_len v) 4096 0 (sector_short v)

-- the slot of an entry that is not used
pub unallocated : (n : ℕ) (new : List ℕ) → n ≡ 80 → take n new ≡ take {A = ℕ} 68 (replicate 128 0) ++ replicate 12 255 → drop n new ≡ drop {A = ℕ} n (replicate 128 0)
    → new ≡ entry_bytes unallocated_entry
unfolding entry_bytes unit_bytes
unallocated n new end before after =
    sym (take-append-drop n new) ∙ ap₂ (λ (xs ys : List ℕ). xs ++ ys) before (after ∙ ap (λ m. drop {A = ℕ} m (replicate 128 0)) end)
