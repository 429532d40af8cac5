-- A stream that has room in its chain wants no sector.
use Rattle.std.proofs.Common.{◌≡◌, ◌≤◌, ◌<◌, ◌+◌, ◌-◌, ◌*◌, ◌/◌, ℕ, List, [], ◌∷◌, sym, ◌∙◌, ap, subst, length, take, drop, arith, suc, max}
use Rattle.std.proofs.Math.Nat.{suc-mul, zero-mul}
use Rattle.std.proofs.lemmas.List.FromFn.{length-map-range_with_len}
use Rattle.std.specs.Prelude.{if◌then◌else◌, Some, unwrap_or, flat_map, ◌==◌, replicate}
use Rattle.std.specs.List.{suffix_len, position_or_len}
use Rattle.std.proofs.Common.{length-append}
use Rattle.std.proofs.lemmas.List.{length-take, length-replicate}
use Rattle.std.proofs.lemmas.Bool.{le-leb, lt-leb, ne_eqb}
use Rattle.cfb_format.specs.declared.version.Version.{Version}
use Rattle.cfb_format.specs.declared.version.Version.TheVariants.{V3, V4}
use Rattle.cfb_format.specs.declared.header.Header.{Header}
use Rattle.cfb_format.specs.Bytes.{sector_len, sector_count, sector_words, words_per_sector, words, free_sector}
use Rattle.cfb_format.specs.Chain.{IsChain, chain_from}
use Rattle.cfb_format.specs.Content.{mini_sector_len, mini_stream_cutoff}
use Rattle.cfb_format.specs.Fat.{without_end, without_padding, difat_entries, all_difat_entries, IsDifat, IsFat, fat_of, fat_value, raw_fat}
use Rattle.cfb_format.specs.Full.{rounded_up, CanTake, sectors_for, mini_sectors_for, sectors_in_chain, mini_sectors_in_chain, minifat_len_for, wanted_for, given_back_for}
use Rattle.cfb_format.specs.Header.{header_difat_len, padded_difat, stored_difat, IsHeader}
use Rattle.cfb_format.specs.Laws.{WantsNone, HasMiniRoom, LongChainsWantNone, LongMiniChainsWantNone}
use Rattle.cfb_format.specs.Names.{Cases}
use Rattle.cfb_format.specs.Reading.{Reading, Reads, IsMinifat, root_entry}
use Rattle.cfb_format.specs.Siblings.{entry_at}
use Rattle.cfb_format.specs.Soundness.{mini_stream_sectors, sectors_of, mini_sectors_of}
use Rattle.cfb_format.proofs.Chains.{chain_from-IsChain}
use Rattle.cfb_format.proofs.Words.{words-length, sector_words-length}

-- ---- numbers

pub quotient_none : (v : Version) (a b : ℕ) → a ≤ b * words_per_sector v → rounded_up a (words_per_sector v) - b ≡ 0
quotient_none V3 a b h = omega arith
quotient_none V4 a b h = omega arith

pub room_none : (v : Version) (a b : ℕ) → a ≤ b * sector_len v → rounded_up a (sector_len v) - b ≡ 0
room_none V3 a b h = omega arith
room_none V4 a b h = omega arith

mini_none : (a b : ℕ) → a ≤ b * mini_sector_len → rounded_up a mini_sector_len - b ≡ 0
mini_none a b h = omega arith

-- ---- how long the lists are that a file is read as

take-shorter : {X : Type 0} (n : ℕ) (xs : List X) → length (take n xs) ≤ length xs
take-shorter n xs = omega (arith, length-take n xs)

words_of : (v : Version) (bytes sectors : List ℕ) → length (flat_map (sector_words v bytes) sectors) ≡ length sectors * words_per_sector v
words_of v bytes [] = sym (zero-mul (words_per_sector v))
words_of v bytes (i ∷ sectors) =
    let here = sector_words-length v bytes i in
    let both = length-append (sector_words v bytes i) (flat_map (sector_words v bytes) sectors) in
    both ∙ one_more (words_per_sector v) (length (sector_words v bytes i)) (length (flat_map (sector_words v bytes) sectors)) (length sectors) here (words_of v bytes sectors)
  where
    one_more : (w a b n : ℕ) → a ≡ w → b ≡ n * w → a + b ≡ suc n * w
    one_more w a b n e f = omega (arith, suc-mul n w)

minifat_covered : (v : Version) (bytes fat : List ℕ) (first len : ℕ) (sectors minifat : List ℕ) → IsMinifat v bytes fat first len sectors minifat
    → length minifat ≤ length sectors * words_per_sector v
minifat_covered v bytes fat first len sectors minifat m =
    let all = flat_map (sector_words v bytes) sectors in
    let short : length (take (len / 64) (without_end (λ word. word == free_sector) all)) ≤ length (without_end (λ word. word == free_sector) all) =
    take-shorter (len / 64) (without_end (λ word. word == free_sector) all) in
    let trimmed : length (without_end (λ word. word == free_sector) all) ≤ length all = take-shorter (length all - suffix_len (λ word. word == free_sector) all) all in
    let same : length minifat ≡ length (take (len / 64) (without_end (λ word. word == free_sector) all)) = ap length m.values in
    let words = words_of v bytes sectors in
    omega (arith, short, trimmed, same, words)

listed_by : (v : Version) (bytes own : List ℕ) → length (flat_map (difat_entries v bytes) own) ≤ length own * (words_per_sector v - 1)
listed_by v bytes [] = omega arith
listed_by v bytes (i ∷ own) =
    let both = length-append (difat_entries v bytes i) (flat_map (difat_entries v bytes) own) in
    let here = length-take (words_per_sector v - 1) (sector_words v bytes i) in
    let rest = listed_by v bytes own in
    let product = suc-mul (length own) (words_per_sector v - 1) in
    omega (arith, both, here, rest, product)

pub header_entries : (bytes : List ℕ) (h : Header) → IsHeader bytes h → length h.initial_difat_entries ≡ header_difat_len
header_entries bytes h is =
    let all = words header_difat_len (drop 76 bytes) in
    let few : length (stored_difat bytes) ≤ length all = take-shorter (position_or_len (λ word. word == free_sector) all) all in
    let count : length all ≡ header_difat_len = words-length header_difat_len (drop 76 bytes) in
    let both = length-append (stored_difat bytes) (replicate (header_difat_len - length (stored_difat bytes)) free_sector) in
    let rest = length-replicate (header_difat_len - length (stored_difat bytes)) free_sector in
    let same : length h.initial_difat_entries ≡ length (padded_difat (stored_difat bytes)) = ap length is.difat in
    omega (arith, few, count, both, rest, same)

places : (bytes : List ℕ) (h : Header) (list own : List ℕ) → IsHeader bytes h → IsDifat bytes h list own
    → length list ≤ header_difat_len + length own * (words_per_sector h.version - 1)
places bytes h list own is d =
    let all = all_difat_entries h bytes own in
    let kept = without_padding h all in
    let trimmed : length (without_end (λ word. word == free_sector) kept) ≤ length kept = take-shorter (length kept - suffix_len (λ word. word == free_sector) kept) kept in
    let unpadded : length kept ≤ length all = take-shorter (max (max header_difat_len h.num_fat_sectors) (length all - suffix_len (λ word. word == 0) all)) all in
    let both = length-append h.initial_difat_entries (flat_map (difat_entries h.version bytes) own) in
    let first = header_entries bytes h is in
    let rest = listed_by h.version bytes own in
    let same : length list ≡ length (without_end (λ word. word == free_sector) kept) = ap length d.entries in
    omega (arith, trimmed, unpadded, both, first, rest, same)

fat_length : (v : Version) (bytes list own fat : List ℕ) → IsFat v bytes list own fat → length fat ≡ sector_count v bytes
unfolding fat_of
fat_length v bytes list own fat is =
    ap length is.values ∙ length-map-range_with_len (fat_value (sector_count v bytes) list own (raw_fat v bytes list)) 0 (sector_count v bytes)

-- ---- a stream that has what a length needs

module _ (cases : Cases) (bytes : List ℕ) (r : Reading) (i len : ℕ) (reads : Reads cases bytes r) (room : HasMiniRoom r) where
  -- what the chain has is enough
  wants_none : sectors_for r.header.version len ≤ sectors_in_chain r i → mini_sectors_for len ≤ mini_sectors_in_chain r i → wanted_for r i len ≡ 0
  wants_none enough mini_enough =
      let same : minifat_len_for r i len ≡ length r.minifat = omega (arith, mini_enough) in
      let tables = quotient_none r.header.version (minifat_len_for r i len) (length r.minifat_sectors)
      (subst (λ n. n ≤ length r.minifat_sectors * words_per_sector r.header.version) (sym same)
      (minifat_covered r.header.version bytes r.fat r.header.first_minifat_sector (root_entry r).stream_len r.minifat_sectors r.minifat reads.minifat)) in
      let mini = room_none r.header.version (minifat_len_for r i len * mini_sector_len) (length (mini_stream_sectors r))
      (subst (λ n. n * mini_sector_len ≤ length (mini_stream_sectors r) * sector_len r.header.version) (sym same) room) in
      omega (arith, enough, tables, mini)

  -- with nothing wanted there is room
  has_room : sector_count r.header.version bytes ≤ length r.fat_sectors * words_per_sector r.header.version → (limit given_back : ℕ) → CanTake limit r given_back 0
  has_room covers limit given_back =
      let count = fat_length r.header.version bytes r.fat_sectors r.difat_sectors r.fat reads.fat in
      record {
        fats = length r.fat_sectors;
        difats = length r.difat_sectors;
        more_fats = omega arith;
        more_difats = omega arith;
        places = places bytes r.header r.fat_sectors r.difat_sectors reads.header reads.difat;
        covers = omega (arith, count, covers);
        left = omega arith;
      }

  fits : sectors_for r.header.version len ≤ sectors_in_chain r i → mini_sectors_for len ≤ mini_sectors_in_chain r i → WantsNone bytes r i len
  fits enough mini_enough =
      let none = wants_none enough mini_enough in
      (none, λ covers limit too_long. too_long (subst (CanTake limit r (given_back_for r i len)) (sym none) (has_room covers limit (given_back_for r i len))))

-- ---- large streams, and small ones

large_has : (r : Reading) (i : ℕ) (list : List ℕ) → mini_stream_cutoff ≤ (entry_at r.entries i).stream_len → IsChain r.fat (entry_at r.entries i).start_sector list
    → sectors_in_chain r i ≡ length list
large_has r i list large chain =
    ap (λ b. if b then length (sectors_of r i) else 0) (le-leb mini_stream_cutoff (entry_at r.entries i).stream_len large)
    ∙ ap (λ o. length (unwrap_or o [])) ((chain_from-IsChain r.fat (entry_at r.entries i).start_sector list).1 chain)

small_has : (r : Reading) (i : ℕ) (list : List ℕ) → 0 < (entry_at r.entries i).stream_len → (entry_at r.entries i).stream_len < mini_stream_cutoff
    → IsChain r.minifat (entry_at r.entries i).start_sector list → mini_sectors_in_chain r i ≡ length list
small_has r i list some small chain =
    ap (λ b. if b then 0 else length (mini_sectors_of r i)) (lt-leb mini_stream_cutoff (entry_at r.entries i).stream_len small)
    ∙ ap (λ b. length (unwrap_or (if b then Some [] else chain_from r.minifat (entry_at r.entries i).start_sector) []))
    (ne_eqb (entry_at r.entries i).stream_len 0 (omega (arith, some)))
    ∙ ap (λ o. length (unwrap_or o [])) ((chain_from-IsChain r.minifat (entry_at r.entries i).start_sector list).1 chain)

sectors_at : (v : Version) (len n : ℕ) → mini_stream_cutoff ≤ len → len ≤ n * sector_len v → sectors_for v len ≤ n
sectors_at v len n large enough =
    subst (λ b. (if b then rounded_up len (sector_len v) else 0) ≤ n) (sym (le-leb mini_stream_cutoff len large)) (let none = room_none v len n enough in omega (arith, none))

no_mini_sectors_at : (len n : ℕ) → mini_stream_cutoff ≤ len → mini_sectors_for len ≤ n
no_mini_sectors_at len n large = subst (λ b. (if b then 0 else rounded_up len mini_sector_len) ≤ n) (sym (le-leb mini_stream_cutoff len large)) (omega arith)

no_sectors_at : (v : Version) (len n : ℕ) → len < mini_stream_cutoff → sectors_for v len ≤ n
no_sectors_at v len n small = subst (λ b. (if b then rounded_up len (sector_len v) else 0) ≤ n) (sym (lt-leb mini_stream_cutoff len small)) (omega arith)

mini_sectors_at : (len n : ℕ) → len < mini_stream_cutoff → len ≤ n * mini_sector_len → mini_sectors_for len ≤ n
mini_sectors_at len n small enough =
    subst (λ b. (if b then 0 else rounded_up len mini_sector_len) ≤ n) (sym (lt-leb mini_stream_cutoff len small)) (let none = mini_none len n enough in omega (arith, none))

pub long_chains : LongChainsWantNone
long_chains cases bytes r i len list reads room large chain long enough =
    fits cases bytes r i len reads room
    (subst (λ n. sectors_for r.header.version len ≤ n) (sym (large_has r i list large chain)) (sectors_at r.header.version len (length list) long enough))
    (no_mini_sectors_at len (mini_sectors_in_chain r i) long)

pub long_mini_chains : LongMiniChainsWantNone
long_mini_chains cases bytes r i len list reads room some small chain short enough =
    fits cases bytes r i len reads room
    (no_sectors_at r.header.version len (sectors_in_chain r i) short)
    (subst (λ n. mini_sectors_for len ≤ n) (sym (small_has r i list some small chain)) (mini_sectors_at len (length list) short enough))
