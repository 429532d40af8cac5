-- Sectors that went on by zeros, and whose old tail was made zeros: what stands along them.
use Rattle.std.proofs.Common.{◌≡◌, ◌≤◌, ◌<◌, ◌+◌, ◌-◌, ◌*◌, ◌/◌, ◌%◌, ◌⊎◌, inl, inr, ℕ, List, ◌++◌, refl, ◌∙◌, length, replicate, arith}
use Rattle.std.specs.Prelude.{Contains, slice_index, nat_eq}
use Rattle.std.specs.List.{IsDistinct}
use Rattle.std.proofs.lemmas.Bool.{cases_lt}
use Rattle.cfb_format.specs.declared.version.Version.{Version}
use Rattle.cfb_format.specs.declared.version.Version.TheVariants.{V3, V4}
use Rattle.cfb_format.specs.Bytes.{sector_len}
use Rattle.cfb_sectors.specs.declared.sector.SectorInit.TheVariants.{Zero}
use Rattle.cfb_resizing.specs.cfb_alloc.Agreement.{KeepsSectors}
use Rattle.cfb_resizing.specs.cfb_alloc.Alloc.{IsAsFilled}
use Rattle.cfb_resizing.specs.cfb_chains.ChainPlaces.{place_along}
use Rattle.cfb_resizing.proofs.cfb_chains.ChainContent.{rest_short}
use Rattle.cfb_resizing.proofs.cfb_chains.PlacedBytes.{grown_fresh, grown_len, grown_place, grown_stays}
use Rattle.cfb_content.specs.Parts.{ChangesOnlyPlaces, StandAlong}
use Rattle.cfb_content.proofs.PlacedOnce.{placed-once}
use Rattle.cfb_content.proofs.PutAlong.{zero-put}
use Rattle.cfb_resizing.specs.Turning.{IsPaddedAlong}
use Rattle.cfb_resizing.proofs.cfb_chains.ChainRuns.{inside_listed}
use Rattle.cfb_content.proofs.GrownWith.{zero-in}

module _ (v : Version) (ids ids' more a b c : List ℕ) (listed : ids' ≡ ids ++ more) (once : IsDistinct nat_eq ids') (longer : length a ≤ length b)
    (keeps : KeepsSectors v ids a b) (filled : (i : ℕ) → Contains more i → IsAsFilled v Zero b i) (len size to : ℕ)
    (there : (k : ℕ) → k < len → (k / sector_len v < length ids) × (place_along v ids k < length a))
    (put : StandAlong (place_along v ids') len (replicate (to - len) 0) c) (zeroed : ChangesOnlyPlaces (place_along v ids') len (to - len) b c)
    (low : to ≤ length ids * sector_len v) (most : (size ≤ to) ⊎ (length ids * sector_len v ≤ to)) (enough : size ≤ length ids' * sector_len v) where
  longer-room : length ids * sector_len v ≤ length ids' * sector_len v
  longer-room = go v (length ids) (length more) (grown_len v v ids ids' more refl listed)
    where
      go : (w : Version) (m n : ℕ) → length ids' * sector_len w ≡ (m + n) * sector_len w → m * sector_len w ≤ length ids' * sector_len w
      go V3 m n e = omega (arith, e)
      go V4 m n e = omega (arith, e)

  -- what stands at another place than those that were made zeros stays
  still : (k : ℕ) → k < length ids' * sector_len v → (k < len) ⊎ (to ≤ k) → place_along v ids' k < length b
      → slice_index c (place_along v ids' k) ≡ slice_index b (place_along v ids' k)
  still k inside other at = zeroed.others (place_along v ids' k) at (λ j from till same.
      let before : j < to = omega (arith, from, till) in
      placed-once v ids' j k once (omega (arith, before, low, longer-room)) inside
      (λ e. elim other [ inl early ↦ omega (arith, e, early, from) | inr late ↦ omega (arith, e, late, before) ]) same)

  kept-byte : (k : ℕ) → k < len → (place_along v ids' k < length c) × (slice_index c (place_along v ids' k) ≡ slice_index a (place_along v ids k))
  kept-byte k lt =
      let was = there k lt in
      let inside = inside_listed v k (length ids) was.0 in
      let same = grown_place v v ids ids' more refl listed k inside in
      let at : place_along v ids' k < length b = omega (arith, same, was.1, longer) in (
        omega (arith, at, zeroed.no_shorter),
        still k (omega (arith, inside, longer-room)) (inl lt) at ∙ grown_stays v v ids ids' more refl listed a b k keeps inside was.1,
      )

  zero-there : (k : ℕ) → len ≤ k → k < size → (place_along v ids' k < length c) × (slice_index c (place_along v ids' k) ≡ 0)
  zero-there k from lt = elim (cases_lt k to) [
    | inl early ↦ zero-put (place_along v ids') len (to - len) c put k from (omega (arith, from, early))
    | inr late ↦
        let inside : k < length ids' * sector_len v = omega (arith, lt, enough) in
        let past : length ids * sector_len v ≤ k = elim most [ inl all ↦ absurd (omega (arith, all, late, lt)) | inr room ↦ omega (arith, room, late) ] in
        let fresh = grown_fresh v v ids ids' more refl listed Zero b k filled past inside in (
          omega (arith, fresh.0, zeroed.no_shorter),
          still k inside (inr late) fresh.0 ∙ fresh.1 ∙ zero-in v (k % sector_len v) (rest_short v k),
        )
  ]

  pub padded : IsPaddedAlong len size (place_along v ids) (place_along v ids') a c
  padded = record {
    there = λ k lt. elim (cases_lt k len) [ inl early ↦ (kept-byte k early).0 | inr late ↦ (zero-there k late lt).0 ];
    kept = λ k lt early. (kept-byte k early).1;
    zeros = λ k from lt. (zero-there k from lt).1;
  }
