-- Where the bytes of a mini chain stand in the mini stream and in the file.
use Rattle.std.proofs.Common.{◌≡◌, ◌≤◌, ◌<◌, ◌+◌, ◌-◌, ◌*◌, ◌/◌, ◌∙◌, ℕ, List, ◌++◌, refl, sym, ap, subst, length, take, drop, replicate, arith, length-append}
use Rattle.std.specs.Prelude.{Contains, slice_index}
use Rattle.std.proofs.lemmas.List.{take-append-drop, take-replicate, get_or_append_left, get_or-append_right, get_or-take}
use Rattle.std.proofs.lemmas.List.Elements.{Contains-append_left, Contains-get_or}
use Rattle.cfb_format.specs.declared.version.Version.{Version}
use Rattle.cfb_format.specs.declared.version.Version.TheVariants.{V3, V4}
use Rattle.cfb_format.specs.Bytes.{sector_len}
use Rattle.cfb_mini_chains.specs.cfb_soundness.Places.{mini_start}

pub zeros_of : (zeros : List ℕ) (n : ℕ) → zeros ≡ replicate 64 0 → n ≤ 64 → take n zeros ≡ replicate n 0
zeros_of zeros n is few = ap (take n) is ∙ take-replicate n 64 0 few

-- ---- a mini sector lies inside one sector

-- the mini stream has all of a mini sector of which it has a byte
pub whole_mini : (v : Version) (m n : ℕ) → 64 * m < n * sector_len v → 64 * m + 64 ≤ n * sector_len v
whole_mini V3 m n h = omega arith
whole_mini V4 m n h = omega arith

-- sectors stand behind the header
pub behind_header : (v : Version) (sectors : List ℕ) (m r : ℕ) → 512 ≤ mini_start v sectors m + r
behind_header V3 sectors m r = omega arith
behind_header V4 sectors m r = omega arith

-- ---- the mini sectors of a mini chain

pub mini_inside : (k n : ℕ) → k < n * 64 → k / 64 < n
mini_inside k n h = omega arith

pub mini_member : (ids : List ℕ) (k : ℕ) → k < length ids * 64 → Contains ids (slice_index ids (k / 64))
mini_member ids k inside = Contains-get_or ids (k / 64) 0 (mini_inside k (length ids) inside)

-- ---- growth and cuts

pub index_before : (ids more : List ℕ) (k : ℕ) → k < length ids * 64 → slice_index (ids ++ more) (k / 64) ≡ slice_index ids (k / 64)
index_before ids more k inside = get_or_append_left ids more 0 (k / 64) (mini_inside k (length ids) inside)

pub gained_member : (ids more : List ℕ) (k : ℕ) → length ids * 64 ≤ k → k < length (ids ++ more) * 64 → Contains more (slice_index (ids ++ more) (k / 64))
gained_member ids more k low high =
    let q = k / 64 in
    let long = length-append ids more in
    let from : length ids ≤ q = omega (arith, low) in
    let there : q - length ids < length more = omega (arith, high, long, from) in
    let right : slice_index (ids ++ more) q ≡ slice_index more (q - length ids) = get_or-append_right ids more (length ids) q 0 refl from in
    subst (Contains more) (sym right) (Contains-get_or more (q - length ids) 0 there)

pub taken_at : (ids : List ℕ) (n k : ℕ) → k < n * 64 → slice_index (take n ids) (k / 64) ≡ slice_index ids (k / 64)
taken_at ids n k inside = get_or-take n ids (k / 64) 0 (mini_inside k n inside)

-- whose mini sectors the members of a list are that is cut
pub kept_own : (ids ids' : List ℕ) (n : ℕ) → ids' ≡ take n ids → (m : ℕ) → Contains ids' m → Contains ids m
kept_own ids ids' n is m member =
    subst (λ (xs : List ℕ). Contains xs m) (take-append-drop n ids) (Contains-append_left (take n ids) (drop n ids) m (subst (λ (xs : List ℕ). Contains xs m) is member))
