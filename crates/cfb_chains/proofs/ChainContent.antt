-- What stands along a chain of sectors that the file has whole, as the file changes.
use Rattle.std.proofs.Common.{◌≡◌, ◌≢◌, ◌≤◌, ◌<◌, ◌+◌, ◌-◌, ◌*◌, ◌/◌, ◌%◌, ◌⊎◌, inl, inr, ℕ, suc, List, [], ◌∷◌, ◌++◌, refl, sym, ◌∙◌, ap, subst, length, take, drop, replicate, arith, length-append, length-take, length-drop, get_or-take, get_or-drop}
use Rattle.std.specs.Prelude.{Contains, slice_index, nat_eq, if◌then◌else◌}
use Rattle.std.specs.List.{IsDistinct}
use Rattle.std.proofs.lemmas.Bool.{le-leb, cases_lt, cases_eq}
use Rattle.std.proofs.lemmas.List.{get_or_append_left, get_or-append_right, ext_get_or, append_assoc, append-nil, take-append-drop, take-take, drop_all, length-replicate}
use Rattle.std.proofs.Math.Seq.{take-append_seam}
use Rattle.std.proofs.lemmas.List.Elements.{Contains-get_or, Contains-append_left, Contains-append_cases}
use Rattle.cfb_format.specs.declared.version.Version.{Version}
use Rattle.cfb_format.specs.declared.version.Version.TheVariants.{V3, V4}
use Rattle.cfb_format.specs.Bytes.{sector_len, sector_start, sector_bytes}
use Rattle.cfb_format.specs.Content.{bytes_along}
use Rattle.cfb_format.specs.Medium.{written}
use Rattle.cfb_format.proofs.ByteLemmas.{length-written, written_below, written_at, written_above, written_from_bytes, written_inside}
use Rattle.cfb_chains.specs.cfb_alloc.Agreement.{HasSectors, KeepsSectors}
use Rattle.cfb_chains.specs.cfb_alloc.Alloc.{IsAsFilled}
use Rattle.cfb_chains.specs.ChainPlaces.{place_along}
use Rattle.cfb_sectors.specs.Sectors.{SectorStays, copies, init_bytes}
use Rattle.cfb_sectors.specs.declared.sector.SectorInit.{SectorInit}
use Rattle.cfb_chains.proofs.cfb_alloc.Listed.{place_once}
use Rattle.cfb_format.proofs.Members.{Contains-there, distinct-left}
use Rattle.cfb_format.proofs.Along.{next_start, first_quotient, first_rest, next_quotient, next_rest}
use Rattle.cfb_chains.proofs.cfb_alloc.ChainView.{index_inside}

-- ---- one sector and those behind it

first_has : (v : Version) (bytes : List ℕ) (i : ℕ) (list : List ℕ) → HasSectors v bytes (i ∷ list) → sector_start v i + sector_len v ≤ length bytes
first_has v bytes i list h = h i (0, omega arith, refl)

rest_has : (v : Version) (bytes : List ℕ) (i : ℕ) (list : List ℕ) → HasSectors v bytes (i ∷ list) → HasSectors v bytes list
rest_has v bytes i list h = λ j m. h j (Contains-there i list j m)

pub along_cons : (v : Version) (bytes : List ℕ) (i : ℕ) (list : List ℕ) → sector_start v i + sector_len v ≤ length bytes
    → bytes_along v bytes (i ∷ list) ≡ sector_bytes v bytes i ++ bytes_along v bytes list
along_cons v bytes i list h =
    ap (λ b. sector_bytes v bytes i ++ (if b then bytes_along v bytes list else [])) (le-leb (sector_start v i + sector_len v) (length bytes) h)

sector_full : (v : Version) (bytes : List ℕ) (i : ℕ) → sector_start v i + sector_len v ≤ length bytes → length (sector_bytes v bytes i) ≡ sector_len v
sector_full v bytes i h = omega (arith, h, length-take (sector_len v) (drop (sector_start v i) bytes), length-drop (sector_start v i) bytes)

one_more : (v : Version) (n : ℕ) → sector_len v + n * sector_len v ≡ suc n * sector_len v
one_more V3 n = omega arith
one_more V4 n = omega arith

none_long : (v : Version) → 0 ≡ 0 * sector_len v
none_long V3 = omega arith
none_long V4 = omega arith

-- ---- how long it is

pub along_len : (v : Version) (bytes ids : List ℕ) → HasSectors v bytes ids → length (bytes_along v bytes ids) ≡ length ids * sector_len v
along_len v bytes [] h = none_long v
along_len v bytes (i ∷ list) h =
    let whole = first_has v bytes i list h in
    ap (λ (xs : List ℕ). length xs) (along_cons v bytes i list whole)
    ∙ length-append (sector_bytes v bytes i) (bytes_along v bytes list)
    ∙ (λ j. sector_full v bytes i whole j + along_len v bytes list (rest_has v bytes i list h) j)
    ∙ one_more v (length list)

-- ---- two chains, one behind the other

pub along_append : (v : Version) (bytes xs ys : List ℕ) → HasSectors v bytes xs → bytes_along v bytes (xs ++ ys) ≡ bytes_along v bytes xs ++ bytes_along v bytes ys
along_append v bytes [] ys h = refl
along_append v bytes (i ∷ list) ys h =
    let whole = first_has v bytes i list h in
    along_cons v bytes i (list ++ ys) whole
    ∙ ap (λ (zs : List ℕ). sector_bytes v bytes i ++ zs) (along_append v bytes list ys (rest_has v bytes i list h))
    ∙ sym (append_assoc (sector_bytes v bytes i) (bytes_along v bytes list) (bytes_along v bytes ys))
    ∙ ap (λ (zs : List ℕ). zs ++ bytes_along v bytes ys) (sym (along_cons v bytes i list whole))

pub append_has : (v : Version) (bytes xs ys : List ℕ) → HasSectors v bytes xs → HasSectors v bytes ys → HasSectors v bytes (xs ++ ys)
append_has v bytes xs ys h g = λ i m. elim (Contains-append_cases xs ys i m) [ inl a ↦ h i a | inr b ↦ g i b ]

-- ---- where a byte of it stands in the file

next_inside : (v : Version) (k n : ℕ) → sector_len v ≤ k → k < suc n * sector_len v → k - sector_len v < n * sector_len v
next_inside V3 k n h lt = omega arith
next_inside V4 k n h lt = omega arith

place_first : (v : Version) (i : ℕ) (list : List ℕ) (k : ℕ) → k < sector_len v → place_along v (i ∷ list) k ≡ sector_start v i + k
place_first v i list k h = λ j. sector_start v (slice_index (i ∷ list) (first_quotient v k h j)) + first_rest v k h j

place_next : (v : Version) (i : ℕ) (list : List ℕ) (k : ℕ) → sector_len v ≤ k → place_along v (i ∷ list) k ≡ place_along v list (k - sector_len v)
place_next v i list k h = λ j. sector_start v (slice_index (i ∷ list) (next_quotient v k h j)) + next_rest v k h j

pub along_at : (v : Version) (bytes ids : List ℕ) (k : ℕ) → HasSectors v bytes ids → k < length ids * sector_len v
    → slice_index (bytes_along v bytes ids) k ≡ slice_index bytes (place_along v ids k)
along_at v bytes [] k h lt = let none = none_long v in absurd (omega arith)
along_at v bytes (i ∷ list) k h lt =
    let whole = first_has v bytes i list h in
    let full = sector_full v bytes i whole in
    ap (λ (xs : List ℕ). slice_index xs k) (along_cons v bytes i list whole)
    ∙ elim (cases_lt k (sector_len v)) [
      | inl low ↦
          get_or_append_left (sector_bytes v bytes i) (bytes_along v bytes list) 0 k (omega (arith, full, low))
          ∙ get_or-take (sector_len v) (drop (sector_start v i) bytes) k 0 low
          ∙ get_or-drop (sector_start v i) bytes k 0
          ∙ ap (slice_index bytes) (sym (place_first v i list k low))
      | inr high ↦
          get_or-append_right (sector_bytes v bytes i) (bytes_along v bytes list) (sector_len v) k 0 full high
          ∙ along_at v bytes list (k - sector_len v) (rest_has v bytes i list h) (next_inside v k (length list) high lt)
          ∙ ap (slice_index bytes) (sym (place_next v i list k high))
    ]

-- ---- it stays where its sectors stay

pub sectors_stay : (v : Version) (old new ids : List ℕ) → HasSectors v old ids → length old ≤ length new → HasSectors v new ids
sectors_stay v old new ids h longer = λ i m. let there = h i m in omega (arith, there, longer)

pub rest_short : (v : Version) (k : ℕ) → k % sector_len v < sector_len v
rest_short V3 k = omega arith
rest_short V4 k = omega arith

stays_there : (v : Version) (i r : ℕ) (old new : List ℕ) → SectorStays v i old new → sector_start v i + sector_len v ≤ length old → r < sector_len v
    → slice_index new (sector_start v i + r) ≡ slice_index old (sector_start v i + r)
unfolding SectorStays
stays_there v i r old new stays whole short =
    stays.each (sector_start v i + r) (omega (arith, whole, short)) (omega arith) (omega (arith, short, next_start v i))

pub along_stays : (v : Version) (old new ids : List ℕ) → HasSectors v old ids → KeepsSectors v ids old new → length old ≤ length new
    → bytes_along v new ids ≡ bytes_along v old ids
along_stays v old new ids h keeps longer =
    let has = sectors_stay v old new ids h longer in
    ext_get_or 0 (bytes_along v new ids) (bytes_along v old ids) (along_len v new ids has ∙ sym (along_len v old ids h))
    (λ k within.
    let low : k < length ids * sector_len v = omega (arith, within, along_len v new ids has) in
    let i = slice_index ids (k / sector_len v) in
    let member = Contains-get_or ids (k / sector_len v) 0 (index_inside v k (length ids) low) in
    along_at v new ids k has low
    ∙ stays_there v i (k % sector_len v) old new (keeps i member) (h i member) (rest_short v k)
    ∙ sym (along_at v old ids k h low))

-- ---- sectors that were filled

pub filled_has : (v : Version) (init : SectorInit) (bytes more : List ℕ) → ((i : ℕ) → Contains more i → IsAsFilled v init bytes i) → HasSectors v bytes more
filled_has v init bytes more filled = λ i m. (filled i m).whole

pub along_filled : (v : Version) (init : SectorInit) (bytes more : List ℕ) → ((i : ℕ) → Contains more i → IsAsFilled v init bytes i)
    → bytes_along v bytes more ≡ copies (length more) (init_bytes v init)
along_filled v init bytes [] filled = refl
along_filled v init bytes (i ∷ list) filled =
    let here = filled i (0, omega arith, refl) in
    along_cons v bytes i list (here.whole)
    ∙ (λ j. here.filled j ++ along_filled v init bytes list (λ k m. filled k (Contains-there i list k m)) j)

-- the chain grew by sectors that were filled
pub along_grown : (v : Version) (init : SectorInit) (old new ids more : List ℕ) → HasSectors v old ids → KeepsSectors v ids old new → length old ≤ length new
    → ((i : ℕ) → Contains more i → IsAsFilled v init new i)
    → bytes_along v new (ids ++ more) ≡ bytes_along v old ids ++ copies (length more) (init_bytes v init)
along_grown v init old new ids more h keeps longer filled =
    along_append v new ids more (sectors_stay v old new ids h longer)
    ∙ (λ j. along_stays v old new ids h keeps longer j ++ along_filled v init new more filled j)

pub grown_has : (v : Version) (init : SectorInit) (old new ids more : List ℕ) → HasSectors v old ids → length old ≤ length new
    → ((i : ℕ) → Contains more i → IsAsFilled v init new i) → HasSectors v new (ids ++ more)
grown_has v init old new ids more h longer filled =
    append_has v new ids more (sectors_stay v old new ids h longer) (filled_has v init new more filled)

-- ---- a write within one of its sectors

same_quotient : (v : Version) (k j : ℕ) → k % sector_len v + j < sector_len v → (k + j) / sector_len v ≡ k / sector_len v
same_quotient V3 k j h = omega arith
same_quotient V4 k j h = omega arith

later_rest : (v : Version) (k j : ℕ) → k % sector_len v + j < sector_len v → (k + j) % sector_len v ≡ k % sector_len v + j
later_rest V3 k j h = omega arith
later_rest V4 k j h = omega arith

step_within : (v : Version) (k m n : ℕ) → k < m * sector_len v → k % sector_len v + n ≤ sector_len v → k + n ≤ m * sector_len v
step_within V3 k m n inside short = omega arith
step_within V4 k m n inside short = omega arith

-- the places of the bytes of one sector follow each other
pub place_later : (v : Version) (ids : List ℕ) (k j : ℕ) → k % sector_len v + j < sector_len v → place_along v ids (k + j) ≡ place_along v ids k + j
place_later v ids k j short =
    (λ n. sector_start v (slice_index ids (same_quotient v k j short n)) + later_rest v k j short n)
    ∙ omega arith

beside_here : (v : Version) (i k n : ℕ) → i / sector_len v ≡ k / sector_len v → (i < k) ⊎ (k + n ≤ i) → (i % sector_len v < k % sector_len v) ⊎ (k % sector_len v + n ≤ i % sector_len v)
beside_here V3 i k n same (inl low) = inl (omega arith)
beside_here V3 i k n same (inr high) = inr (omega arith)
beside_here V4 i k n same (inl low) = inl (omega arith)
beside_here V4 i k n same (inr high) = inr (omega arith)

before_there : (v : Version) (s t r n : ℕ) → s < t → r < sector_len v → sector_start v s + r < sector_start v t + n
before_there V3 s t r n less short = omega arith
before_there V4 s t r n less short = omega arith

behind_there : (v : Version) (s t r q n : ℕ) → t < s → q + n ≤ sector_len v → sector_start v t + q + n ≤ sector_start v s + r
behind_there V3 s t r q n less short = omega arith
behind_there V4 s t r q n less short = omega arith

-- the place of another byte than those that are written lies beside them
pub beside : (v : Version) (ids : List ℕ) (i k n : ℕ) → IsDistinct nat_eq ids → i < length ids * sector_len v → k < length ids * sector_len v
    → k % sector_len v + n ≤ sector_len v → (i < k) ⊎ (k + n ≤ i) → (place_along v ids i < place_along v ids k) ⊎ (place_along v ids k + n ≤ place_along v ids i)
beside v ids i k n once low inside short other =
    elim (cases_eq (i / sector_len v) (k / sector_len v)) [
      | inl same ↦
          let start = ap (λ q. sector_start v (slice_index ids q)) same in
          elim (beside_here v i k n same other) [ inl below ↦ inl (omega (arith, start, below)) | inr above ↦ inr (omega (arith, start, above)) ]
      | inr differ ↦
          elim (cases_lt (slice_index ids (i / sector_len v)) (slice_index ids (k / sector_len v))) [
            | inl less ↦ inl (before_there v _ _ _ _ less (rest_short v i))
            | inr more ↦
                let other_sector : slice_index ids (i / sector_len v) ≢ slice_index ids (k / sector_len v) =
                λ e. differ (place_once ids once (i / sector_len v) (k / sector_len v) (index_inside v i (length ids) low) (index_inside v k (length ids) inside) e) in
                elim (cases_lt (slice_index ids (k / sector_len v)) (slice_index ids (i / sector_len v))) [
                  | inl less ↦ inr (behind_there v _ _ _ _ _ less short)
                  | inr not_less ↦ absurd (other_sector (omega (arith, more, not_less)))
                ]
          ]
    ]

pub beside_kept : (bytes : List ℕ) (at p : ℕ) (from : List ℕ) → (p < at) ⊎ (at + length from ≤ p) → slice_index (written bytes at from) p ≡ slice_index bytes p
beside_kept bytes at p from (inl low) = written_below bytes at from p low
beside_kept bytes at p from (inr high) = written_above bytes at from p high

pub written_has : (v : Version) (bytes ids : List ℕ) (at : ℕ) (from : List ℕ) → HasSectors v bytes ids → HasSectors v (written bytes at from) ids
written_has v bytes ids at from h = sectors_stay v bytes (written bytes at from) ids h (omega (arith, length-written bytes at from))

pub along_written : (v : Version) (bytes ids : List ℕ) (k : ℕ) (from : List ℕ) → IsDistinct nat_eq ids → HasSectors v bytes ids → k < length ids * sector_len v
    → k % sector_len v + length from ≤ sector_len v
    → bytes_along v (written bytes (sector_start v (slice_index ids (k / sector_len v)) + k % sector_len v) from) ids ≡ written (bytes_along v bytes ids) k from
along_written v bytes ids k from once h inside short =
    let new = written bytes (place_along v ids k) from in
    let has = written_has v bytes ids (place_along v ids k) from h in
    let long = along_len v new ids has in
    let before = along_len v bytes ids h in
    written_from_bytes (bytes_along v bytes ids) k from (bytes_along v new ids)
    (omega (arith, long, before, step_within v k (length ids) (length from) inside short))
    (λ i less within.
    let low : i < length ids * sector_len v = omega (arith, within, long) in
    along_at v new ids i has low ∙ beside_kept bytes (place_along v ids k) (place_along v ids i) from (beside v ids i k (length from) once low inside short (inl less))
    ∙ sym (along_at v bytes ids i h low))
    (λ i less.
    let here : k % sector_len v + i < sector_len v = omega (arith, short, less) in
    let low : k + i < length ids * sector_len v = omega (arith, step_within v k (length ids) (length from) inside short, less) in
    along_at v new ids (k + i) has low ∙ ap (slice_index new) (place_later v ids k i here) ∙ written_at bytes (place_along v ids k) from i less)
    (λ i more within.
    let low : i < length ids * sector_len v = omega (arith, within, long) in
    along_at v new ids i has low ∙ beside_kept bytes (place_along v ids k) (place_along v ids i) from (beside v ids i k (length from) once low inside short (inr more))
    ∙ sym (along_at v bytes ids i h low))

-- ---- the end is cut off

pub cut_has : (v : Version) (bytes ids : List ℕ) (m : ℕ) → HasSectors v bytes ids → HasSectors v bytes (take m ids)
cut_has v bytes ids m h = λ i c. h i (subst (λ xs. Contains xs i) (take-append-drop m ids) (Contains-append_left (take m ids) (drop m ids) i c))

pub along_cut : (v : Version) (bytes ids : List ℕ) (m : ℕ) → HasSectors v bytes ids → m ≤ length ids
    → bytes_along v bytes (take m ids) ≡ take (m * sector_len v) (bytes_along v bytes ids)
along_cut v bytes ids m h few =
    let has = cut_has v bytes ids m h in
    let front = bytes_along v bytes (take m ids) in
    let back = bytes_along v bytes (drop m ids) in
    let count : length (take m ids) ≡ m = omega (arith, length-take m ids, few) in
    let long : length front ≡ m * sector_len v = along_len v bytes (take m ids) has ∙ ap (λ n. n * sector_len v) count in
    let whole : bytes_along v bytes ids ≡ front ++ back =
    ap (bytes_along v bytes) (sym (take-append-drop m ids)) ∙ along_append v bytes (take m ids) (drop m ids) has in
    sym (take-append_seam front back) ∙ ap (λ n. take n (front ++ back)) long ∙ ap (take (m * sector_len v)) (sym whole)

-- ---- zeros at the end of the last of m sectors

-- a write up to the end
pub written_to_end : (b : List ℕ) (k : ℕ) (f : List ℕ) → k + length f ≡ length b → written b k f ≡ take k b ++ f
written_to_end b k f ends =
    written_inside b k f (omega (arith, ends))
    ∙ ap (λ (xs : List ℕ). take k b ++ (f ++ xs)) (drop_all (k + length f) b (omega (arith, ends)))
    ∙ ap (λ (xs : List ℕ). take k b ++ xs) (append-nil f)

last_index : (v : Version) (m len : ℕ) → (m - 1) * sector_len v < len → len < m * sector_len v → len / sector_len v < m
last_index V3 m len more less = omega arith
last_index V4 m len more less = omega arith

last_room : (v : Version) (m len : ℕ) → (m - 1) * sector_len v < len → len < m * sector_len v → len % sector_len v + (m * sector_len v - len) ≡ sector_len v
last_room V3 m len more less = omega arith
last_room V4 m len more less = omega arith

pub taken_index : (ids : List ℕ) (m k : ℕ) → k < m → slice_index (take m ids) k ≡ slice_index ids k
taken_index ids m k low = get_or-take m ids k 0 low

front_distinct : (ids : List ℕ) (m : ℕ) → IsDistinct nat_eq ids → IsDistinct nat_eq (take m ids)
front_distinct ids m once = distinct-left (take m ids) (drop m ids) (subst (IsDistinct nat_eq) (sym (take-append-drop m ids)) once)

-- m sectors remain, and what stands behind byte `len` of them is zeros
pub along_zeroed : (v : Version) (bytes ids : List ℕ) (m len : ℕ) → IsDistinct nat_eq ids → HasSectors v bytes ids → m ≤ length ids
    → (m - 1) * sector_len v < len → len < m * sector_len v
    → bytes_along v (written bytes (sector_start v (slice_index ids (len / sector_len v)) + len % sector_len v) (replicate (m * sector_len v - len) 0)) (take m ids)
    ≡ take len (bytes_along v bytes ids) ++ replicate (m * sector_len v - len) 0
along_zeroed v bytes ids m len once h few more less =
    let zeros : List ℕ = replicate (m * sector_len v - len) 0 in
    let kept = take m ids in
    let has = cut_has v bytes ids m h in
    let content = bytes_along v bytes kept in
    let count : length kept ≡ m = omega (arith, length-take m ids, few) in
    let size : length kept * sector_len v ≡ m * sector_len v = ap (λ n. n * sector_len v) count in
    let long = along_len v bytes kept has in
    let there : sector_start v (slice_index ids (len / sector_len v)) + len % sector_len v ≡ place_along v kept len =
    ap (λ n. sector_start v n + len % sector_len v) (sym (taken_index ids m (len / sector_len v) (last_index v m len more less))) in
    let zero_count = length-replicate {A = ℕ} (m * sector_len v - len) 0 in
    let room = last_room v m len more less in
    let inside : len < length kept * sector_len v = omega (arith, less, size) in
    let short : len % sector_len v + length zeros ≤ sector_len v = omega (arith, room, zero_count) in
    let ends : len + length zeros ≡ length content = omega (arith, zero_count, long, size, less) in
    ap (λ at. bytes_along v (written bytes at zeros) kept) there
    ∙ along_written v bytes kept len zeros (front_distinct ids m once) has inside short
    ∙ written_to_end content len zeros ends
    ∙ ap (λ (xs : List ℕ). take len xs ++ zeros) (along_cut v bytes ids m h few)
    ∙ ap (λ (xs : List ℕ). xs ++ zeros) (take-take len (m * sector_len v) (bytes_along v bytes ids) (omega (arith, less)))

-- the same where byte `len` is the end of them, and nothing is written
pub along_cut_there : (v : Version) (bytes ids : List ℕ) (m len : ℕ) → HasSectors v bytes ids → m ≤ length ids → len ≡ m * sector_len v
    → bytes_along v bytes (take m ids) ≡ take len (bytes_along v bytes ids) ++ replicate (m * sector_len v - len) 0
along_cut_there v bytes ids m len h few is =
    let none : m * sector_len v - len ≡ 0 = omega (arith, is) in
    along_cut v bytes ids m h few
    ∙ ap (λ n. take n (bytes_along v bytes ids)) (sym is)
    ∙ sym (append-nil (take len (bytes_along v bytes ids)))
    ∙ ap (λ n. take len (bytes_along v bytes ids) ++ replicate n 0) (sym none)
