-- What can be read along a chain of sectors is the sectors' bytes, one after the other.
use Rattle.std.proofs.Common.{◌≡◌, ◌≤◌, ◌<◌, ◌+◌, ◌-◌, ◌/◌, ◌%◌, min, ℕ, zero, suc, List, [], ◌∷◌, ◌++◌, Bool, true, false, refl, sym, ◌∙◌, ap, subst, length, take, drop, arith}
use Rattle.std.specs.Prelude.{if◌then◌else◌, Option, Some, None, option_and_then, slice_get, slice_index, nat_lt, IsTrue}
use Rattle.std.specs.Option.{option_map_or}
use Rattle.std.proofs.lemmas.List.{length-take, get_or_append_left, get_or-append_right, get_or-drop, drop_all}
use Rattle.std.proofs.Common.{length-append, length-drop, get_or-take, drop-cons, add-one}
use Rattle.std.proofs.lemmas.Bool.{lt-ltb, le-ltb, ltb-true, ltb-false, leb-true, leb-false}
use Rattle.cfb_format.specs.declared.version.Version.{Version}
use Rattle.cfb_format.specs.declared.version.Version.TheVariants.{V3, V4}
use Rattle.cfb_format.specs.Bytes.{byte_at, sector_len, sector_start, sector_bytes, is_whole_sector}
use Rattle.cfb_format.specs.Content.{in_file, place_in_chain, place_in_mini_chain, sector_chain, mini_chain, is_large, readable, placed_from, bytes_along}
use Rattle.cfb_format.specs.DirectoryEntry.{Entry}
use Rattle.cfb_format.specs.Reading.{Reading}
use Rattle.cfb_format.specs.Chain.{IsChain}
use Rattle.cfb_format.proofs.Chains.{chain_from-IsChain}

-- ---- places within a sector

pub first_quotient : (v : Version) (k : ℕ) → k < sector_len v → k / sector_len v ≡ 0
first_quotient V3 k h = omega arith
first_quotient V4 k h = omega arith

pub first_rest : (v : Version) (k : ℕ) → k < sector_len v → k % sector_len v ≡ k
first_rest V3 k h = omega arith
first_rest V4 k h = omega arith

pub next_quotient : (v : Version) (k : ℕ) → sector_len v ≤ k → k / sector_len v ≡ suc ((k - sector_len v) / sector_len v)
next_quotient V3 k h = omega arith
next_quotient V4 k h = omega arith

pub next_rest : (v : Version) (k : ℕ) → sector_len v ≤ k → k % sector_len v ≡ (k - sector_len v) % sector_len v
next_rest V3 k h = omega arith
next_rest V4 k h = omega arith

some_len : (v : Version) → 0 < sector_len v
some_len V3 = omega arith
some_len V4 = omega arith

-- the place of a byte of the first sector, and of a later one
module _ (v : Version) (bytes : List ℕ) (i : ℕ) (list : List ℕ) where
  place_first : (k : ℕ) → k < sector_len v → place_in_chain v bytes (i ∷ list) k ≡ in_file bytes (sector_start v i + k)
  place_first k h = λ j. option_and_then (λ n. in_file bytes (sector_start v n + first_rest v k h j)) (slice_get (i ∷ list) (first_quotient v k h j))

  place_next : (k : ℕ) → sector_len v ≤ k → place_in_chain v bytes (i ∷ list) k ≡ place_in_chain v bytes list (k - sector_len v)
  place_next k h = λ j. option_and_then (λ n. in_file bytes (sector_start v n + next_rest v k h j)) (slice_get (i ∷ list) (next_quotient v k h j))

pub in_file_at : (bytes : List ℕ) (at : ℕ) → at < length bytes → in_file bytes at ≡ Some at
in_file_at bytes at h = ap (λ b. if b then Some at else None) (lt-ltb at (length bytes) h)

past_file : (bytes : List ℕ) (at : ℕ) → length bytes ≤ at → in_file bytes at ≡ None
past_file bytes at h = ap (λ b. if b then Some at else None) (le-ltb at (length bytes) h)

-- ---- a sector's bytes

sector_length : (v : Version) (bytes : List ℕ) (i : ℕ) → length (sector_bytes v bytes i) ≡ min (sector_len v) (length bytes - sector_start v i)
sector_length v bytes i = length-take (sector_len v) (drop (sector_start v i) bytes) ∙ ap (min (sector_len v)) (length-drop (sector_start v i) bytes)

sector_at : (v : Version) (bytes : List ℕ) (i k : ℕ) → k < length (sector_bytes v bytes i) → slice_index (sector_bytes v bytes i) k ≡ byte_at bytes (sector_start v i + k)
sector_at v bytes i k h =
    let short : k < sector_len v = omega (arith, sector_length v bytes i) in
    get_or-take (sector_len v) (drop (sector_start v i) bytes) k 0 short ∙ get_or-drop (sector_start v i) bytes k 0

-- the sectors from one on, where that one is whole or isn't
abbrev joined : Version → List ℕ → ℕ → List ℕ → Bool → List ℕ
joined v bytes i list whole = sector_bytes v bytes i ++ (if whole then bytes_along v bytes list else [])

-- where a byte along the chain stands
Stands : Version → List ℕ → List ℕ → ℕ → List ℕ → Type 0
Stands v bytes list k along = (at : ℕ) × (place_in_chain v bytes list k ≡ Some at) × (byte_at bytes at ≡ slice_index along k)

in_first : (v : Version) (bytes : List ℕ) (i : ℕ) (list rest : List ℕ) (k : ℕ) → k < length (sector_bytes v bytes i) → Stands v bytes (i ∷ list) k (sector_bytes v bytes i ++ rest)
unfolding Stands
in_first v bytes i list rest k h =
    let short : k < sector_len v = omega (arith, sector_length v bytes i) in
    let inside : sector_start v i + k < length bytes = omega (arith, sector_length v bytes i) in (
      sector_start v i + k,
      place_first v bytes i list k short ∙ in_file_at bytes (sector_start v i + k) inside,
      sym (sector_at v bytes i k h) ∙ sym (get_or_append_left (sector_bytes v bytes i) rest 0 k h),
    )

whole_length : (v : Version) (bytes : List ℕ) (i : ℕ) → is_whole_sector v bytes i ≡ true → length (sector_bytes v bytes i) ≡ sector_len v
whole_length v bytes i w =
    let fits : sector_start v i + sector_len v ≤ length bytes = leb-true (sector_start v i + sector_len v) (length bytes) w in
    omega (arith, sector_length v bytes i, fits)

stands : (v : Version) (bytes list : List ℕ) (k : ℕ) → k < length (bytes_along v bytes list) → Stands v bytes list k (bytes_along v bytes list)
unfolding Stands
stands v bytes [] k h = absurd (omega arith)
stands v bytes (i ∷ list) k h = go (is_whole_sector v bytes i) refl (nat_lt k (sector_len v)) refl h (λ m g. stands v bytes list m g)
  where
    go : (b : Bool) → is_whole_sector v bytes i ≡ b → (c : Bool) → nat_lt k (sector_len v) ≡ c → k < length (joined v bytes i list b)
        → ((m : ℕ) → m < length (bytes_along v bytes list) → Stands v bytes list m (bytes_along v bytes list))
        → Stands v bytes (i ∷ list) k (joined v bytes i list b)
    go false w c t g next = in_first v bytes i list [] k (omega (arith, g, length-append (sector_bytes v bytes i) []))
    go true w true t g next = in_first v bytes i list (bytes_along v bytes list) k (omega (arith, whole_length v bytes i w, ltb-true k (sector_len v) t))
    go true w false t g next =
        let full = whole_length v bytes i w in
        let later : sector_len v ≤ k = ltb-false k (sector_len v) t in
        let n = next (k - sector_len v) (omega (arith, g, full, later, length-append (sector_bytes v bytes i) (bytes_along v bytes list))) in (
          n.0,
          place_next v bytes i list k later ∙ n.1,
          n.2 ∙ sym (get_or-append_right (sector_bytes v bytes i) (bytes_along v bytes list) (sector_len v) k 0 full later),
        )

-- at the end of them nothing stands
ends : (v : Version) (bytes list : List ℕ) → place_in_chain v bytes list (length (bytes_along v bytes list)) ≡ None
ends v bytes [] = refl
ends v bytes (i ∷ list) = go (is_whole_sector v bytes i) refl (ends v bytes list)
  where
    go : (b : Bool) → is_whole_sector v bytes i ≡ b → place_in_chain v bytes list (length (bytes_along v bytes list)) ≡ None
        → place_in_chain v bytes (i ∷ list) (length (joined v bytes i list b)) ≡ None
    go true w next =
        let whole : length (joined v bytes i list true) ≡ sector_len v + length (bytes_along v bytes list) =
        length-append (sector_bytes v bytes i) (bytes_along v bytes list) ∙ ap (λ n. n + length (bytes_along v bytes list)) (whole_length v bytes i w) in
        let later : sector_len v ≤ length (joined v bytes i list true) = omega (arith, whole) in
        let back : length (joined v bytes i list true) - sector_len v ≡ length (bytes_along v bytes list) = omega (arith, whole) in
        place_next v bytes i list (length (joined v bytes i list true)) later ∙ ap (place_in_chain v bytes list) back ∙ next
    go false w next =
        let cut : length bytes < sector_start v i + sector_len v = leb-false (sector_start v i + sector_len v) (length bytes) w in
        let same : length (joined v bytes i list false) ≡ length (sector_bytes v bytes i) + 0 = length-append (sector_bytes v bytes i) [] in
        let short : length (joined v bytes i list false) < sector_len v = omega (arith, same, cut, sector_length v bytes i, some_len v) in
        place_first v bytes i list (length (joined v bytes i list false)) short
        ∙ past_file bytes (sector_start v i + length (joined v bytes i list false)) (omega (arith, same, cut, sector_length v bytes i))

-- what can be read from byte k on is what stands along the chain from there
pub placed-bytes_along : (v : Version) (bytes list : List ℕ) (more k : ℕ) → k ≤ length (bytes_along v bytes list)
    → placed_from bytes (place_in_chain v bytes list) k more ≡ take more (drop k (bytes_along v bytes list))
unfolding placed_from Stands
placed-bytes_along v bytes list zero k h = refl
placed-bytes_along v bytes list (suc more) k h = go (nat_lt k (length (bytes_along v bytes list))) refl (λ g. placed-bytes_along v bytes list more (k + 1) g)
  where
    step : Option ℕ → List ℕ
    step o = option_map_or (λ at. byte_at bytes at ∷ placed_from bytes (place_in_chain v bytes list) (k + 1) more) o []

    go : (b : Bool) → nat_lt k (length (bytes_along v bytes list)) ≡ b
        → (k + 1 ≤ length (bytes_along v bytes list) → placed_from bytes (place_in_chain v bytes list) (k + 1) more ≡ take more (drop (k + 1) (bytes_along v bytes list)))
        → step (place_in_chain v bytes list k) ≡ take (suc more) (drop k (bytes_along v bytes list))
    go true t next =
        let below : k < length (bytes_along v bytes list) = ltb-true k (length (bytes_along v bytes list)) t in
        let s = stands v bytes list k below in
        ap step s.1
        ∙ (λ j. s.2 j ∷ next (omega arith) j)
        ∙ ap (λ n. slice_index (bytes_along v bytes list) k ∷ take more (drop n (bytes_along v bytes list))) (add-one k)
        ∙ sym (ap (take (suc more)) (drop-cons (bytes_along v bytes list) k 0 below))
    go false t next =
        let past : length (bytes_along v bytes list) ≤ k = ltb-false k (length (bytes_along v bytes list)) t in
        let same : length (bytes_along v bytes list) ≡ k = omega arith in
        ap step (subst (λ n. place_in_chain v bytes list n ≡ None) same (ends v bytes list))
        ∙ sym (ap (take (suc more)) (drop_all k (bytes_along v bytes list) past))

-- what can be read of a large stream whose chain is this list
pub readable-large : (bytes : List ℕ) (r : Reading) (e : Entry) (list : List ℕ) → IsTrue (is_large e) → IsChain r.fat e.start_sector list
    → readable bytes r e ≡ take e.stream_len (bytes_along r.header.version bytes list)
readable-large bytes r e list large chain =
    let found : sector_chain r e ≡ Some list = (chain_from-IsChain r.fat e.start_sector list).1 chain in
    (λ j. placed_from bytes (λ k. if large j then option_and_then (λ l. place_in_chain r.header.version bytes l k) (found j)
    else option_and_then (λ l. place_in_mini_chain bytes r l k) (mini_chain r e)) 0 e.stream_len)
    ∙ placed-bytes_along r.header.version bytes list e.stream_len 0 (omega arith)

pub next_start : (v : Version) (i : ℕ) → sector_start v (i + 1) ≡ sector_start v i + sector_len v
next_start V3 i = omega arith
next_start V4 i = omega arith

pub sectors_apart : (v : Version) (a b : ℕ) → a < b → sector_start v a + sector_len v ≤ sector_start v b
sectors_apart V3 a b h = omega arith
sectors_apart V4 a b h = omega arith
