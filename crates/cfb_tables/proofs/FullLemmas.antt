-- When the tables are full.
use Rattle.std.proofs.Common.{◌≡◌, ℕ, ◌+◌, ◌-◌, ◌≤◌, refl, ◌∙◌, ap, arith, length}
use Rattle.cfb_format.specs.Bytes.{max_regular_sector}
use Rattle.cfb_format.specs.Full.{free_count}
use Rattle.cfb_tables.specs.declared.lists.Sizes.{Sizes}
use Rattle.cfb_tables.specs.Tables.{TableState, AreFullTables, IsTooFew, CanTakeSectors, IsCovered, AreSizes, sizes_of, sizes_after, grown_sizes, numbers_needed}
use Rattle.cfb_tables.proofs.SizeLemmas.{needed-some, after-one, after-none, no-room, room}
use Rattle.cfb_tables.proofs.FreeLemmas.{count-none, count-zero}

-- the sizes with one sector more
after_first : (t : TableState) → free_count t.fat ≡ 0 → (sizes_after t.version (1 - free_count t.fat) (sizes_of t)).sectors ≡ length t.fat + numbers_needed t.version (sizes_of t)
after_first t zero =
    ap (λ (z : Sizes). z.sectors)
    (after-one t.version (1 - free_count t.fat) 0 (sizes_of t) (omega (arith, zero))
    ∙ after-none t.version 0 (grown_sizes (sizes_of t) (numbers_needed t.version (sizes_of t))) refl)

pub full-is-too-few : (t : TableState) → (AreFullTables t → IsTooFew t 1) × (IsTooFew t 1 → AreFullTables t)
full-is-too-few t = (
  (λ f.
      let zero = count-none t.fat f.none in
      let after = after_first t zero in
      let few = f.few in
      (omega (arith, zero), omega (arith, after, few))),
  λ p.
      let some = p.0 in
      let zero : free_count t.fat ≡ 0 = omega (arith, some) in
      let after = after_first t zero in
      let pass = p.1 in
      let needed = (needed-some t.version (sizes_of t)).0 in
      record { none = count-zero t.fat zero; few = omega (arith, after, pass, needed) },
)

pub too-few-is-no-room : (t : TableState) (count : ℕ) → IsTooFew t count → CanTakeSectors t count → ⊥
too-few-is-no-room t count few r = no-room t.version t.max_sectors (count - free_count t.fat) (sizes_of t) few r

pub enough-is-room : (t : TableState) (count : ℕ) → AreSizes t.version (sizes_of t) → t.max_sectors ≤ max_regular_sector → IsCovered t
    → (IsTooFew t count → ⊥) → CanTakeSectors t count
enough-is-room t count are top covered enough = room t.version t.max_sectors (count - free_count t.fat) (sizes_of t) are top covered enough
