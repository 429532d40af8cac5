-- What a write and a set length make of each byte of a lent chain.
use Rattle.std.proofs.Common.{◌≡◌, ◌≤◌, ◌<◌, ◌+◌, ◌-◌, ◌*◌, ◌/◌, ◌%◌, ◌⊎◌, inl, inr, ℕ, List, ◌++◌, sym, ◌∙◌, ap, subst, length, take, replicate, arith}
use Rattle.std.specs.Prelude.{Contains, Vec, slice_index, nat_eq}
use Rattle.std.specs.List.{IsDistinct}
use Rattle.std.proofs.lemmas.Bool.{cases_lt}
use Rattle.std.proofs.lemmas.List.{get_or_past}
use Rattle.cfb_format.specs.Bytes.{sector_len, free_sector}
use Rattle.cfb_format.specs.Chain.{value}
use Rattle.cfb_format.specs.declared.version.Version.{Version}
use Rattle.cfb_format.specs.Full.{rounded_up}
use Rattle.cfb_format.specs.Medium.{written}
use Rattle.cfb_format.specs.declared.medium.ReadMedium as medium
use Rattle.cfb_chains.specs.cfb_alloc.Agreement.{KeepsSectors}
use Rattle.cfb_chains.specs.cfb_alloc.Alloc.{IsAsFilled}
use Rattle.cfb_chains.specs.ChainPlaces.{place_along}
use Rattle.cfb_chains.specs.LentChain.{allocator_of, ids_of, init_of, version_of, len_of, position_of, file_bytes_of, place_at, byte_of, HoldsWanted, ChangesOnlyWanted, HasWritten, HasResized}
use Rattle.cfb_chains.specs.declared.chain.Chain.{Chain}
use Rattle.cfb_chains.specs.declared.chain.Numbers as numbers
use Rattle.cfb_chains.proofs.OwnWrites.{enough_by}
use Rattle.cfb_chains.proofs.PlacedBytes.{as_many, gained_member, index_before, grown_fresh, grown_place, grown_stays, kept_there, left_len, left_place, longer_chain, no_more, zero_kept, zero_there}

module _ {F A : Type 0} {g : medium.Ghosts F} {l : numbers.Ghosts (Vec ℕ A)} where
  -- ---- a write

  pub nothing_wanted : (old new : Chain F A (Vec ℕ A) g l) (count : ℕ) → file_bytes_of new ≡ file_bytes_of old → ChangesOnlyWanted count old new
  nothing_wanted old new count same = record {
    no_shorter = let long = ap (λ (xs : List ℕ). length xs) same in omega (arith, long);
    others = λ i within other. ap (λ (xs : List ℕ). slice_index xs i) same;
  }

  module _ (old new : Chain F A (Vec ℕ A) g l) (m : ℕ) (from : List ℕ) (version : version_of new ≡ version_of old) (listed : ids_of new ≡ ids_of old) where
    same_place : (k : ℕ) → place_at new k ≡ place_at old k
    same_place k = λ j. place_along (version j) (listed j) k

    same_len : len_of new ≡ len_of old
    same_len = λ j. length (listed j) * sector_len (version j)

    pub wrote_none : m ≡ 0 → file_bytes_of new ≡ file_bytes_of old → HasWritten m from old new
    wrote_none zero same = record {
      places = λ k inside. same_place k;
      written = λ j less. absurd (omega (arith, zero, less));
      stays = λ k inside other there. λ j. slice_index (same j) (same_place k j);
      gap = λ as_long k inside other past. (λ j. slice_index (same j) (same_place k j)) ∙ get_or_past (file_bytes_of old) (place_at old k) 0 past;
      fresh = λ k low high behind. let is = same_len in absurd (omega (arith, is, low, high));
    }

  -- ---- growth, and a write then

  module _ (old grown : Chain F A (Vec ℕ A) g l) (more : List ℕ) (version : version_of grown ≡ version_of old) (listed : ids_of grown ≡ ids_of old ++ more) (some : 0 < length more)
      (keeps : KeepsSectors (version_of old) (ids_of old) (file_bytes_of old) (file_bytes_of grown))
      (filled : (i : ℕ) → Contains more i → IsAsFilled (version_of grown) (init_of old) (file_bytes_of grown) i) where
    pub grown_resized : (len : ℕ) → HasResized len old grown
    grown_resized len =
        let longer = longer_chain (version_of old) (version_of grown) (ids_of old) (ids_of grown) more version listed some in
        record {
          places = λ k below inside. grown_place (version_of old) (version_of grown) (ids_of old) (ids_of grown) more version listed k inside;
          stays = λ k below inside there.
              grown_stays (version_of old) (version_of grown) (ids_of old) (ids_of grown) more version listed (file_bytes_of old) (file_bytes_of grown) k keeps inside there;
          gap = λ same k below inside past. absurd (omega (arith, same, longer));
          zeros = λ no_longer k behind high. absurd (omega (arith, no_longer, longer));
          fresh = λ k low high.
              grown_fresh (version_of old) (version_of grown) (ids_of old) (ids_of grown) more version listed (init_of old) (file_bytes_of grown) k filled low high;
        }

    pub grown_written : (new : Chain F A (Vec ℕ A) g l) (m : ℕ) (from : List ℕ) → position_of grown ≡ position_of old → length (file_bytes_of old) ≤ length (file_bytes_of grown)
        → version_of new ≡ version_of grown → ids_of new ≡ ids_of grown → ChangesOnlyWanted (length from) grown new → m ≤ length from → HasWritten m from grown new → HasWritten m from old new
    grown_written new m from position no_shorter version' listed' changes few wrote =
        let longer = longer_chain (version_of old) (version_of grown) (ids_of old) (ids_of grown) more version listed some in
        let same_len : len_of new ≡ len_of grown = λ j. length (listed' j) * sector_len (version' j) in
        record {
          places = λ k inside.
              wrote.places k (omega (arith, inside, longer))
              ∙ grown_place (version_of old) (version_of grown) (ids_of old) (ids_of grown) more version listed k inside;
          written = λ j less.
              subst (λ q. (place_at new (q + j) < length (file_bytes_of new)) × (byte_of new (q + j) ≡ slice_index from j)) position (wrote.written j less);
          stays = λ k inside other there.
              let apart : (k < position_of grown) ⊎ (position_of grown + m ≤ k) = elim other [ inl below ↦ inl (omega (arith, below, position)) | inr above ↦ inr (omega (arith, above, position)) ] in
              let at = grown_place (version_of old) (version_of grown) (ids_of old) (ids_of grown) more version listed k inside in
              wrote.stays k (omega (arith, inside, longer)) apart (omega (arith, at, there, no_shorter))
              ∙ grown_stays (version_of old) (version_of grown) (ids_of old) (ids_of grown) more version listed (file_bytes_of old) (file_bytes_of grown) k keeps inside there;
          gap = λ same k inside other past. absurd (omega (arith, same, same_len, longer));
          fresh = λ k low high behind.
              let lower : k < len_of grown = omega (arith, high, same_len) in
              let is = grown_fresh (version_of old) (version_of grown) (ids_of old) (ids_of grown) more version listed (init_of old) (file_bytes_of grown) k filled low lower in
              let at : place_at new k ≡ place_at grown k = λ j. place_along (version' j) (listed' j) k in
              let there = is.0 in
              let no_less = changes.no_shorter in (
                omega (arith, at, there, no_less),
                wrote.stays k lower (inr (omega (arith, behind, few, position))) there ∙ is.1,
              );
        }

  -- a sector that was in use before holds of what is wanted what it held before
  pub was_wanted : (old grown : Chain F A (Vec ℕ A) g l) (more : List ℕ) (count i : ℕ) → version_of grown ≡ version_of old → position_of grown ≡ position_of old
      → ids_of grown ≡ ids_of old ++ more → ((k : ℕ) → Contains more k → value (allocator_of old).now.tables.fat k ≡ free_sector)
      → (value (allocator_of old).now.tables.fat i ≡ free_sector → ⊥) → (HoldsWanted count old i → ⊥) → HoldsWanted count grown i → ⊥
  was_wanted old grown more count i version position listed fresh busy other holds =
      let k = holds.byte in
      let behind = holds.behind in
      let wanted = holds.wanted in
      let here : slice_index (ids_of old ++ more) (k / sector_len (version_of old)) ≡ i = (λ j. slice_index (sym listed j) (k / sector_len (sym version j))) ∙ holds.here in
      let high : k < length (ids_of old ++ more) * sector_len (version_of old) =
      subst (λ (z : List ℕ). k < length z * sector_len (version_of old)) listed (subst (λ (v : Version). k < length (ids_of grown) * sector_len v) version holds.there) in
      elim (cases_lt k (len_of old)) [
        | inl low ↦
            other (record {
              byte = k;
              behind = omega (arith, behind, position);
              wanted = omega (arith, wanted, position);
              there = low;
              here = sym (index_before (version_of old) (ids_of old) more k low) ∙ here;
            })
        | inr past ↦ busy (fresh i (subst (Contains more) here (gained_member (version_of old) (ids_of old) more k past high)))
      ]

  -- ---- a cut, and zeros behind the length then

  pub cut_resized : (old cut new : Chain F A (Vec ℕ A) g l) (len m : ℕ) → IsDistinct nat_eq (ids_of cut) → version_of cut ≡ version_of old → ids_of cut ≡ take m (ids_of old) → m ≡ rounded_up len (sector_len (version_of old))
      → m ≤ length (ids_of old) → KeepsSectors (version_of old) (ids_of old) (file_bytes_of old) (file_bytes_of cut)
      → (length (ids_of old) ≤ m → file_bytes_of cut ≡ file_bytes_of old) → version_of new ≡ version_of cut → ids_of new ≡ ids_of cut
      → (len % sector_len (version_of cut) ≡ 0 → file_bytes_of new ≡ file_bytes_of cut)
      → (0 < len % sector_len (version_of cut)
      → file_bytes_of new ≡ written (file_bytes_of cut) (place_at cut len) (replicate (sector_len (version_of cut) - len % sector_len (version_of cut)) 0))
      → HasResized len old new
  cut_resized old cut new len m once version left wanted few keeps whole version' listed none some =
      let v = version_of old in
      let w = version_of cut in
      let enough : len ≤ m * sector_len v = let by = enough_by v len in let is = ap (λ n. n * sector_len v) wanted in omega (arith, by, is) in
      let size : len_of cut ≡ m * sector_len v = left_len v w (ids_of old) (ids_of cut) m version left few in
      let within : len ≤ len_of cut = omega (arith, enough, size) in
      let same_len : len_of new ≡ len_of cut = λ j. length (listed j) * sector_len (version' j) in
      let at : (k : ℕ) → place_at new k ≡ place_at cut k = λ k. λ j. place_along (version' j) (listed j) k in
      let kept : (k : ℕ) → k < len → byte_of new k ≡ byte_of cut k =
      λ k below. ap (slice_index (file_bytes_of new)) (at k) ∙ zero_kept w (ids_of cut) (file_bytes_of cut) (file_bytes_of new) len once within none some k below in
      let placed : (k : ℕ) → k < len → place_at cut k ≡ place_at old k =
      λ k below. left_place v w (ids_of old) (ids_of cut) m version left k (omega (arith, below, enough)) in
      record {
        places = λ k below inside. at k ∙ placed k below;
        stays = λ k below inside there.
            kept k below ∙ ap (slice_index (file_bytes_of cut)) (placed k below) ∙ kept_there v (ids_of old) (file_bytes_of old) (file_bytes_of cut) k keeps inside there;
        gap = λ same k below inside past.
            let all = as_many v m (length (ids_of old)) (sym size ∙ sym same_len ∙ same) in
            kept k below ∙ ap (slice_index (file_bytes_of cut)) (placed k below)
            ∙ ap (λ (xs : List ℕ). slice_index xs (place_at old k)) (whole all)
            ∙ get_or_past (file_bytes_of old) (place_at old k) 0 past;
        zeros = λ no_longer k behind high.
            let up : rounded_up len (sector_len w) * sector_len w ≡ m * sector_len v =
            (λ j. rounded_up len (sector_len (version j)) * sector_len (version j)) ∙ ap (λ n. n * sector_len v) (sym wanted) in
            let is = zero_there w (ids_of cut) (file_bytes_of cut) (file_bytes_of new) len once within none some k behind (omega (arith, high, same_len, size, up)) in
            let here = at k in
            let there = is.0 in
            (omega (arith, here, there), ap (slice_index (file_bytes_of new)) here ∙ is.1);
        fresh = λ k low high.
            let less = no_more v m (length (ids_of old)) few in
            absurd (omega (arith, low, high, same_len, size, less));
      }
