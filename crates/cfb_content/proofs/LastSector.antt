-- What the file has of sectors of which only the last may be cut short.
use Rattle.std.proofs.Common.{◌≡◌, ◌+◌, ◌-◌, ◌*◌, ◌/◌, ◌%◌, ◌^◌, ◌<◌, ◌≤◌, ℕ, List, inl, inr, sym, subst, length, min, arith}
use Rattle.std.specs.Prelude.{slice_index}
use Rattle.std.proofs.lemmas.Bool.{cases_lt}
use Rattle.cfb_format.specs.declared.version.Version.{Version}
use Rattle.cfb_format.specs.declared.version.Version.TheVariants.{V3, V4}
use Rattle.cfb_format.specs.Bytes.{sector_len, sector_start}
use Rattle.cfb_content.specs.Parts.{HasFirst, IsThereInSectors}

-- of the last of m + 1 sectors, and of all before it
abbrev has-of-last : Version → List ℕ → ℕ → ℕ → ℕ
has-of-last v ids m end = min (end - sector_start v (slice_index ids m)) (sector_len v)

pub first-but-last : (v : Version) (ids : List ℕ) (m end len n : ℕ) → length ids ≡ m + 1 → ((i : ℕ) → i < m → (slice_index ids i + 2) * sector_len v ≤ end)
    → len < 2 ^ 64 → n ≡ min (min (min (m * sector_len v) (2 ^ 64 - 1) + has-of-last v ids m end) (2 ^ 64 - 1)) len
    → HasFirst (IsThereInSectors v ids end) len n
first-but-last V3 ids m end len n long whole small is = record {
  few = omega (arith, is);
  there = λ k lt. elim (cases_lt (k / 512) m) [
    | inl less ↦ let here = whole (k / 512) less in record { listed = omega (arith, less, long); reached = omega (arith, here) }
    | inr more ↦
        let same : m ≡ k / 512 = omega (arith, more, lt, is) in
        record { listed = omega (arith, same, long); reached = subst (λ (j : ℕ). sector_start V3 (slice_index ids j) + k % 512 < end) same (omega (arith, same, lt, is)) }
  ];
  cut = λ less t.
      let listed = t.listed in
      let same : n / 512 ≡ m = omega (arith, listed, long, is, less, small) in
      let reached : sector_start V3 (slice_index ids m) + n % 512 < end = subst (λ (j : ℕ). sector_start V3 (slice_index ids j) + n % 512 < end) same t.reached in
      omega (arith, same, reached, is, less, small);
}
first-but-last V4 ids m end len n long whole small is = record {
  few = omega (arith, is);
  there = λ k lt. elim (cases_lt (k / 4096) m) [
    | inl less ↦ let here = whole (k / 4096) less in record { listed = omega (arith, less, long); reached = omega (arith, here) }
    | inr more ↦
        let same : m ≡ k / 4096 = omega (arith, more, lt, is) in
        record { listed = omega (arith, same, long); reached = subst (λ (j : ℕ). sector_start V4 (slice_index ids j) + k % 4096 < end) same (omega (arith, same, lt, is)) }
  ];
  cut = λ less t.
      let listed = t.listed in
      let same : n / 4096 ≡ m = omega (arith, listed, long, is, less, small) in
      let reached : sector_start V4 (slice_index ids m) + n % 4096 < end = subst (λ (j : ℕ). sector_start V4 (slice_index ids j) + n % 4096 < end) same t.reached in
      omega (arith, same, reached, is, less, small);
}
