-- The bytes of a chain, each in its place, as its sectors stay, are filled and are written.
use Rattle.std.proofs.Common.{◌≡◌, ◌≤◌, ◌<◌, ◌+◌, ◌-◌, ◌*◌, ◌/◌, ◌%◌, ◌⊎◌, inl, inr, ℕ, zero, suc, List, ◌++◌, refl, sym, ◌∙◌, ap, subst, length, take, drop, replicate, arith, length-append, length-take, get_or-take, get_or-drop}
use Rattle.std.specs.Prelude.{Contains, slice_index, nat_eq}
use Rattle.std.specs.List.{IsDistinct}
use Rattle.std.proofs.lemmas.List.{get_or_append_left, get_or-append_right, get_or-replicate, length-replicate}
use Rattle.std.proofs.lemmas.List.Elements.{Contains-get_or}
use Rattle.cfb_format.specs.declared.version.Version.{Version}
use Rattle.cfb_format.specs.declared.version.Version.TheVariants.{V3, V4}
use Rattle.cfb_format.specs.Bytes.{sector_len, sector_start}
use Rattle.cfb_format.specs.Full.{rounded_up}
use Rattle.cfb_format.specs.Medium.{written}
use Rattle.cfb_format.proofs.ByteLemmas.{length-written, written_at}
use Rattle.cfb_sectors.specs.Sectors.{SectorStays, init_bytes}
use Rattle.cfb_sectors.specs.declared.sector.SectorInit.{SectorInit}
use Rattle.cfb_chains.specs.cfb_alloc.Agreement.{KeepsSectors}
use Rattle.cfb_chains.specs.cfb_alloc.Alloc.{IsAsFilled}
use Rattle.cfb_chains.specs.ChainPlaces.{place_along}
use Rattle.cfb_chains.proofs.ChainContent.{beside, beside_kept, place_later, rest_short, taken_index}
use Rattle.cfb_chains.proofs.ChainWrites.{not_end}
use Rattle.cfb_chains.proofs.cfb_alloc.ChainView.{index_inside}
use Rattle.cfb_format.proofs.Along.{next_start}
use Rattle.cfb_chains.proofs.LentContent.{none_left, some_left}

-- ---- a sector that stays, and one that was filled

pub kept_there : (v : Version) (ids a b : List ℕ) (k : ℕ) → KeepsSectors v ids a b → k < length ids * sector_len v → place_along v ids k < length a
    → slice_index b (place_along v ids k) ≡ slice_index a (place_along v ids k)
unfolding SectorStays
kept_there v ids a b k keeps inside there =
    let i = slice_index ids (k / sector_len v) in
    let member = Contains-get_or ids (k / sector_len v) 0 (index_inside v k (length ids) inside) in
    (keeps i member).each (place_along v ids k) there (omega arith) (omega (arith, rest_short v k, next_start v i))

filled_there : (v : Version) (init : SectorInit) (b : List ℕ) (i r : ℕ) → IsAsFilled v init b i → r < sector_len v
    → (sector_start v i + r < length b) × (slice_index b (sector_start v i + r) ≡ slice_index (init_bytes v init) r)
filled_there v init b i r filled short =
    let whole = filled.whole in (
      omega (arith, whole, short),
      sym (get_or-take (sector_len v) (drop (sector_start v i) b) r 0 short ∙ get_or-drop (sector_start v i) b r 0) ∙ ap (λ (xs : List ℕ). slice_index xs r) filled.filled,
    )

-- ---- growth

first_gained : (v : Version) (k m : ℕ) → m * sector_len v ≤ k → m ≤ k / sector_len v
first_gained V3 k m low = omega arith
first_gained V4 k m low = omega arith

gained_index : (v : Version) (k m n : ℕ) → k < (m + n) * sector_len v → m ≤ k / sector_len v → k / sector_len v - m < n
gained_index V3 k m n high low = omega arith
gained_index V4 k m n high low = omega arith

pub index_before : (v : Version) (ids more : List ℕ) (k : ℕ) → k < length ids * sector_len v → slice_index (ids ++ more) (k / sector_len v) ≡ slice_index ids (k / sector_len v)
index_before v ids more k inside = get_or_append_left ids more 0 (k / sector_len v) (index_inside v k (length ids) inside)

pub gained_member : (v : Version) (ids more : List ℕ) (k : ℕ) → length ids * sector_len v ≤ k → k < length (ids ++ more) * sector_len v
    → Contains more (slice_index (ids ++ more) (k / sector_len v))
gained_member v ids more k low high =
    let q = k / sector_len v in
    let from = first_gained v k (length ids) low in
    let there = gained_index v k (length ids) (length more) (subst (λ n. k < n * sector_len v) (length-append ids more) high) from in
    let right : slice_index (ids ++ more) q ≡ slice_index more (q - length ids) = get_or-append_right ids more (length ids) q 0 refl from in
    subst (Contains more) (sym right) (Contains-get_or more (q - length ids) 0 there)

gained_at : (v : Version) (m j : ℕ) → ((m * sector_len v + j) / sector_len v ≡ m + j / sector_len v) × ((m * sector_len v + j) % sector_len v ≡ j % sector_len v)
gained_at V3 m j = (omega arith, omega arith)
gained_at V4 m j = (omega arith, omega arith)

-- a byte behind those of the sectors that were there is one of the gained ones
pub gained_place : (v : Version) (ids more : List ℕ) (j : ℕ) → place_along v (ids ++ more) (length ids * sector_len v + j) ≡ place_along v more j
gained_place v ids more j =
    let m = length ids in
    let q = j / sector_len v in
    let index = gained_at v m j in
    let right : slice_index (ids ++ more) (m + q) ≡ slice_index more (m + q - m) = get_or-append_right ids more m (m + q) 0 refl (omega arith) in
    let less : m + q - m ≡ q = omega arith in
    (λ i. sector_start v (slice_index (ids ++ more) (index.0 i)) + index.1 i)
    ∙ ap (λ x. sector_start v x + j % sector_len v) (right ∙ ap (slice_index more) less)

fresh_there : (v : Version) (init : SectorInit) (b ids more : List ℕ) (k : ℕ) → ((i : ℕ) → Contains more i → IsAsFilled v init b i)
    → length ids * sector_len v ≤ k → k < length (ids ++ more) * sector_len v
    → (place_along v (ids ++ more) k < length b) × (slice_index b (place_along v (ids ++ more) k) ≡ slice_index (init_bytes v init) (k % sector_len v))
fresh_there v init b ids more k filled low high =
    let i = slice_index (ids ++ more) (k / sector_len v) in
    filled_there v init b i (k % sector_len v) (filled i (gained_member v ids more k low high)) (rest_short v k)

no_fewer : (v : Version) (m n : ℕ) → m * sector_len v ≤ (m + n) * sector_len v
no_fewer V3 m n = omega arith
no_fewer V4 m n = omega arith

more_than : (v : Version) (m n : ℕ) → 0 < n → m * sector_len v < (m + n) * sector_len v
more_than V3 m n some = omega arith
more_than V4 m n some = omega arith

module _ (v v' : Version) (ids ids' more : List ℕ) (version : v' ≡ v) (listed : ids' ≡ ids ++ more) where
  pub grown_len : length ids' * sector_len v' ≡ (length ids + length more) * sector_len v
  grown_len = (λ j. length (listed j) * sector_len (version j)) ∙ ap (λ n. n * sector_len v) (length-append ids more)

  pub no_shorter_chain : length ids * sector_len v ≤ length ids' * sector_len v'
  no_shorter_chain = let is = grown_len in let le = no_fewer v (length ids) (length more) in omega (arith, is, le)

  pub longer_chain : 0 < length more → length ids * sector_len v < length ids' * sector_len v'
  longer_chain some = let is = grown_len in let less = more_than v (length ids) (length more) some in omega (arith, is, less)

  pub grown_place : (k : ℕ) → k < length ids * sector_len v → place_along v' ids' k ≡ place_along v ids k
  grown_place k inside =
      (λ j. place_along (version j) (listed j) k)
      ∙ ap (λ i. sector_start v i + k % sector_len v) (index_before v ids more k inside)

  pub grown_stays : (a b : List ℕ) (k : ℕ) → KeepsSectors v ids a b → k < length ids * sector_len v → place_along v ids k < length a
      → slice_index b (place_along v' ids' k) ≡ slice_index a (place_along v ids k)
  grown_stays a b k keeps inside there = ap (slice_index b) (grown_place k inside) ∙ kept_there v ids a b k keeps inside there

  pub grown_fresh : (init : SectorInit) (b : List ℕ) (k : ℕ) → ((i : ℕ) → Contains more i → IsAsFilled v' init b i) → length ids * sector_len v ≤ k → k < length ids' * sector_len v'
      → (place_along v' ids' k < length b) × (slice_index b (place_along v' ids' k) ≡ slice_index (init_bytes v init) (k % sector_len v))
  grown_fresh init b k filled low high =
      subst (λ (w : Version). (place_along w ids' k < length b) × (slice_index b (place_along w ids' k) ≡ slice_index (init_bytes v init) (k % sector_len v))) (sym version)
      (subst (λ (z : List ℕ). (place_along v z k < length b) × (slice_index b (place_along v z k) ≡ slice_index (init_bytes v init) (k % sector_len v))) (sym listed)
      (fresh_there v init b ids more k (λ i m. subst (λ (w : Version). IsAsFilled w init b i) version (filled i m)) low
      (subst (λ (w : Version). k < length (ids ++ more) * sector_len w) version (subst (λ (z : List ℕ). k < length z * sector_len v') listed high))))

-- ---- a cut

module _ (v v' : Version) (ids ids' : List ℕ) (m : ℕ) (version : v' ≡ v) (left : ids' ≡ take m ids) where
  pub left_place : (k : ℕ) → k < m * sector_len v → place_along v' ids' k ≡ place_along v ids k
  left_place k inside =
      (λ j. place_along (version j) (left j) k)
      ∙ ap (λ i. sector_start v i + k % sector_len v) (taken_index ids m (k / sector_len v) (index_inside v k m inside))

  pub left_len : m ≤ length ids → length ids' * sector_len v' ≡ m * sector_len v
  left_len few =
      let count : length (take m ids) ≡ m = omega (arith, few, length-take m ids) in
      (λ j. length (left j) * sector_len (version j)) ∙ ap (λ n. n * sector_len v) count

pub as_many : (v : Version) (m n : ℕ) → m * sector_len v ≡ n * sector_len v → n ≤ m
as_many V3 m n is = omega arith
as_many V4 m n is = omega arith

pub no_more : (v : Version) (m n : ℕ) → m ≤ n → m * sector_len v ≤ n * sector_len v
no_more V3 m n few = omega arith
no_more V4 m n few = omega arith

-- ---- a write within a sector

module _ (v : Version) (ids a : List ℕ) (p : ℕ) (f : List ℕ) (once : IsDistinct nat_eq ids) (inside : p < length ids * sector_len v)
    (short : p % sector_len v + length f ≤ sector_len v) where
  pub kept_beside : (k : ℕ) → k < length ids * sector_len v → (k < p) ⊎ (p + length f ≤ k)
      → slice_index (written a (place_along v ids p) f) (place_along v ids k) ≡ slice_index a (place_along v ids k)
  kept_beside k low other = beside_kept a (place_along v ids p) (place_along v ids k) f (beside v ids k p (length f) once low inside short other)

  pub put_there : (j : ℕ) → j < length f
      → (place_along v ids (p + j) < length (written a (place_along v ids p) f)) × (slice_index (written a (place_along v ids p) f) (place_along v ids (p + j)) ≡ slice_index f j)
  put_there j less =
      let later = place_later v ids p j (omega (arith, short, less)) in
      let long = length-written a (place_along v ids p) f in (
        omega (arith, later, long, less),
        ap (slice_index (written a (place_along v ids p) f)) later ∙ written_at a (place_along v ids p) f j less,
      )

-- ---- zeros from a byte to the end of its sector

zero_or_more : (n : ℕ) → (n ≡ 0) ⊎ (0 < n)
zero_or_more zero = inl refl
zero_or_more (suc n) = inr (omega arith)

module _ (v : Version) (ids a b : List ℕ) (len : ℕ) (once : IsDistinct nat_eq ids) (within : len ≤ length ids * sector_len v)
    (none : len % sector_len v ≡ 0 → b ≡ a)
    (some : 0 < len % sector_len v → b ≡ written a (place_along v ids len) (replicate (sector_len v - len % sector_len v) 0)) where
  abbrev zeros : List ℕ
  zeros = replicate (sector_len v - len % sector_len v) 0

  zero_count : length zeros ≡ sector_len v - len % sector_len v
  zero_count = length-replicate {A = ℕ} (sector_len v - len % sector_len v) 0

  zeros_fit : len % sector_len v + length zeros ≤ sector_len v
  zeros_fit = let short = rest_short v len in let count = zero_count in omega (arith, short, count)

  inside : 0 < len % sector_len v → len < length ids * sector_len v
  inside parted = not_end v len (length ids) within (λ is. omega (arith, is, parted))

  pub zero_kept : (k : ℕ) → k < len → slice_index b (place_along v ids k) ≡ slice_index a (place_along v ids k)
  zero_kept k below = elim (zero_or_more (len % sector_len v)) [
    | inl whole ↦ ap (λ (xs : List ℕ). slice_index xs (place_along v ids k)) (none whole)
    | inr parted ↦
        ap (λ (xs : List ℕ). slice_index xs (place_along v ids k)) (some parted)
        ∙ kept_beside v ids a len zeros once (inside parted) zeros_fit k (omega (arith, below, within)) (inl below)
  ]

  pub zero_there : (k : ℕ) → len ≤ k → k < rounded_up len (sector_len v) * sector_len v → (place_along v ids k < length b) × (slice_index b (place_along v ids k) ≡ 0)
  zero_there k behind high = elim (zero_or_more (len % sector_len v)) [
    | inl whole ↦ (let end = none_left v len whole in absurd (omega (arith, end, behind, high)))
    | inr parted ↦
        (let end = some_left v len parted in
        let count = zero_count in
        let less : k - len < length zeros = omega (arith, end, count, behind, high) in
        let put = put_there v ids a len zeros once (inside parted) zeros_fit (k - len) less in
        let is : len + (k - len) ≡ k = omega (arith, behind) in
        let there : (place_along v ids k < length (written a (place_along v ids len) zeros)) × (slice_index (written a (place_along v ids len) zeros) (place_along v ids k) ≡ slice_index zeros (k - len)) =
        subst (λ m. (place_along v ids m < length (written a (place_along v ids len) zeros)) × (slice_index (written a (place_along v ids len) zeros) (place_along v ids m) ≡ slice_index zeros (k - len))) is put in
        subst (λ (xs : List ℕ). (place_along v ids k < length xs) × (slice_index xs (place_along v ids k) ≡ 0)) (sym (some parted))
        (there.0, there.1 ∙ get_or-replicate (sector_len v - len % sector_len v) (k - len) 0 0 (omega (arith, less, count))))
  ]
