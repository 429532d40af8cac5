-- What the FAT says of sectors past the end is free.
use Rattle.std.proofs.Common.{◌≡◌, ◌<◌, ◌≤◌, ℕ, suc, ◌+◌, ◌-◌, ◌*◌, List, [], ◌∷◌, ◌++◌, true, false, length, drop, get_or, min, sym, ◌∙◌, ap, subst, arith, append_assoc, append-nil, drop-cons, add-one}
use Rattle.std.specs.Prelude.{◌&&◌, if◌then◌else◌}
use Rattle.std.proofs.lemmas.List.{drop_all}
use Rattle.cfb_format.specs.declared.version.Version.{Version}
use Rattle.cfb_format.specs.Bytes.{word_at, words_per_sector}
use Rattle.cfb_format.specs.Fat.{is_fat_padding}
use Rattle.cfb_mending.specs.declared.patches.Patch.{Patch}
use Rattle.cfb_mending.specs.Missing.{fat_patches, fat_sector_patches, free_up_to, freed, has_word}

-- ---- the FAT

pub freed-on : (bytes : List ℕ) (at k : ℕ) → (has_word bytes at && is_fat_padding (word_at bytes at)) ≡ true → freed bytes at (suc k) ≡ freed bytes (at + 4) k
unfolding freed
freed-on bytes at k e = λ j. if e j then freed bytes (at + 4) k else free_up_to at (at + 4 * suc k)

pub freed-here : (bytes : List ℕ) (at k : ℕ) → (has_word bytes at && is_fat_padding (word_at bytes at)) ≡ false → freed bytes at (suc k) ≡ free_up_to at (at + 4 * suc k)
unfolding freed
freed-here bytes at k e = λ j. if e j then freed bytes (at + 4) k else free_up_to at (at + 4 * suc k)

pub freed-more : (bytes : List ℕ) (start i n : ℕ) (all : List Patch) → i < n → (has_word bytes (start + 4 * i) && is_fat_padding (word_at bytes (start + 4 * i))) ≡ true
    → freed bytes (start + 4 * i) (n - i) ≡ all → freed bytes (start + 4 * (i + 1)) (n - (i + 1)) ≡ all
freed-more bytes start i n all below e is =
    ap (λ (at : ℕ). freed bytes at (n - (i + 1))) (let a : start + 4 * (i + 1) ≡ start + 4 * i + 4 = omega arith in a)
    ∙ sym (freed-on bytes (start + 4 * i) (n - (i + 1)) e) ∙ ap (λ (k : ℕ). freed bytes (start + 4 * i) k) (let a : suc (n - (i + 1)) ≡ n - i = omega (arith, below) in a) ∙ is

pub freed-from : (bytes : List ℕ) (start i n at upto : ℕ) (all : List Patch) → i < n → (has_word bytes (start + 4 * i) && is_fat_padding (word_at bytes (start + 4 * i))) ≡ false
    → at ≡ start + 4 * i → upto ≡ start + 4 * n → freed bytes (start + 4 * i) (n - i) ≡ all → free_up_to at upto ≡ all
freed-from bytes start i n at upto all below e at-is upto-is is =
    (λ j. free_up_to (at-is j) ((let a : upto ≡ start + 4 * i + 4 * suc (n - (i + 1)) = omega (arith, below, upto-is) in a) j))
    ∙ sym (freed-here bytes (start + 4 * i) (n - (i + 1)) e) ∙ ap (λ (k : ℕ). freed bytes (start + 4 * i) k) (let a : suc (n - (i + 1)) ≡ n - i = omega (arith, below) in a) ∙ is

pub freed-none : (bytes : List ℕ) (start i n : ℕ) (all : List Patch) → n ≤ i → freed bytes (start + 4 * i) (n - i) ≡ all → [] ≡ all
unfolding freed
freed-none bytes start i n all past is = sym (ap (λ (k : ℕ). freed bytes (start + 4 * i) k) (let a : n - i ≡ 0 = omega (arith, past) in a)) ∙ is

pub fat-more : (version : Version) (bytes : List ℕ) (n : ℕ) (fat : List ℕ) (i d left : ℕ) (now new all : List Patch) → i < length fat
    → now ++ fat_patches version bytes n (drop i fat) left ≡ all
    → new ≡ now ++ fat_sector_patches version bytes n (get_or fat i d) (min left (words_per_sector version))
    → new ++ fat_patches version bytes n (drop (i + 1) fat) (left - words_per_sector version) ≡ all
unfolding fat_patches
fat-more version bytes n fat i d left now new all below now-is new-is =
    let s = get_or fat i d in
    let rest = drop (i + 1) fat in
    let here = fat_sector_patches version bytes n s (min left (words_per_sector version)) in
    let behind = fat_patches version bytes n rest (left - words_per_sector version) in
    let cut : drop i fat ≡ s ∷ rest = drop-cons fat i d below ∙ ap (λ (k : ℕ). s ∷ drop k fat) (sym (add-one i)) in
    ap (λ (l : List Patch). l ++ behind) new-is ∙ append_assoc now here behind ∙ sym (ap (λ (l : List ℕ). now ++ fat_patches version bytes n l left) cut) ∙ now-is

-- the same along a copy of the list
pub fat-more-of : (version : Version) (bytes : List ℕ) (n : ℕ) (fat items : List ℕ) (i d left : ℕ) (now new all : List Patch) → items ≡ fat → i < length items
    → now ++ fat_patches version bytes n (drop i fat) left ≡ all
    → new ≡ now ++ fat_sector_patches version bytes n (get_or items i d) (min left (words_per_sector version))
    → new ++ fat_patches version bytes n (drop (i + 1) fat) (left - words_per_sector version) ≡ all
fat-more-of version bytes n fat items i d left now new all is below now-is new-is =
    fat-more version bytes n fat i d left now new all (subst (λ (l : List ℕ). i < length l) is below) now-is
    (new-is ∙ ap (λ (l : List ℕ). now ++ fat_sector_patches version bytes n (get_or l i d) (min left (words_per_sector version))) is)

pub fat-all : (version : Version) (bytes : List ℕ) (n : ℕ) (fat : List ℕ) (i left : ℕ) (now all : List Patch) → length fat ≤ i
    → now ++ fat_patches version bytes n (drop i fat) left ≡ all → now ≡ all
unfolding fat_patches
fat-all version bytes n fat i left now all past is =
    sym (append-nil now) ∙ sym (ap (λ (l : List ℕ). now ++ fat_patches version bytes n l left) (drop_all i fat past)) ∙ is
