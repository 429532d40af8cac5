-- Where the directory's slots stand.
use Rattle.std.proofs.Common.{◌≡◌, ◌≢◌, ◌≤◌, ◌<◌, ◌+◌, ◌*◌, ◌/◌, ◌%◌, ◌⊎◌, inl, inr, ℕ, List, ap, sym, ◌∙◌, subst, length, arith, mod-lt}
use Rattle.std.specs.Prelude.{slice_index, nat_eq, Contains}
use Rattle.std.specs.List.{IsDistinct}
use Rattle.std.proofs.lemmas.Bool.{cases_eq, cases_lt}
use Rattle.std.proofs.lemmas.Nat.{div-add-mod'}
use Rattle.std.proofs.lemmas.List.Elements.{Contains-get_or, Contains-append_cases}
use Rattle.std.proofs.lemmas.Grind.{same_number_lists}
use Rattle.cfb_format.specs.declared.version.Version.{Version}
use Rattle.cfb_format.specs.declared.version.Version.TheVariants.{V3, V4}
use Rattle.cfb_format.specs.Bytes.{sector_len, sector_start, entries_per_sector}
use Rattle.cfb_format.specs.Medium.{part}
use Rattle.cfb_format.proofs.ByteLemmas.{length-part, part_at}
use Rattle.cfb_slots.specs.cfb_sectors.Words.{RangeStays}
use Rattle.cfb_slots.specs.cfb_sectors.Sectors.{SectorStays, place_in_sector}
use Rattle.cfb_alloc.specs.Agreement.{HasSectors, KeepsSectors}
use Rattle.cfb_alloc.specs.Alloc.{AllocatorState}
use Rattle.cfb_alloc.specs.Frame.{LieOutside, table_sectors}
use Rattle.cfb_alloc.specs.InSector.{IsNoTableSector, LiesIn}
use Rattle.cfb_alloc.proofs.Listed.{place_once}
use Rattle.cfb_alloc.proofs.Spared.{apart_from}
use Rattle.cfb_slots.specs.Slots.{slot_of, slot_place}
use Rattle.cfb_slots.specs.SlotLaws.{HeaderIsOutsideSlots}

pub some_slots : (v : Version) → 0 < entries_per_sector v
some_slots V3 = omega arith
some_slots V4 = omega arith

-- which of the sectors has the slot
pub slot_sector : (v : Version) (k n : ℕ) → k < n * entries_per_sector v → k / entries_per_sector v < n
slot_sector V3 k n h = omega arith
slot_sector V4 k n h = omega arith

-- that one has all of it
pub index_fits : (v : Version) (index : ℕ) → index < entries_per_sector v → index * 128 + 128 ≤ sector_len v
index_fits V3 index low = omega arith
index_fits V4 index low = omega arith

pub slot_fits : (v : Version) (k : ℕ) → k % entries_per_sector v * 128 + 128 ≤ sector_len v
slot_fits v k = index_fits v (k % entries_per_sector v) (mod-lt k (some_slots v))

pub slot_in_sector : (v : Version) (sector index : ℕ) → index < entries_per_sector v → LiesIn v sector (sector_start v sector + index * 128) 128
slot_in_sector v sector index low = let fits = index_fits v index low in (omega arith, omega (arith, fits))

-- and is one of them
pub slot_member : (v : Version) (list : List ℕ) (k : ℕ) → k < length list * entries_per_sector v → Contains list (slice_index list (k / entries_per_sector v))
slot_member v list k lt = Contains-get_or list (k / entries_per_sector v) 0 (slot_sector v k (length list) lt)

-- where the file has the sectors, it has the slot
pub slot_inside : (v : Version) (bytes list : List ℕ) (k : ℕ) → HasSectors v bytes list → k < length list * entries_per_sector v → slot_place v list k + 128 ≤ length bytes
slot_inside v bytes list k whole lt =
    let there = whole (slice_index list (k / entries_per_sector v)) (slot_member v list k lt) in
    omega (arith, there, slot_fits v k)

sector_before : (v : Version) (a b r s : ℕ) → a < b → r < entries_per_sector v → sector_start v a + r * 128 + 128 ≤ sector_start v b + s * 128
sector_before V3 a b r s h l = omega arith
sector_before V4 a b r s h l = omega arith

-- two slots have no byte in common
pub slots_apart : (v : Version) (list : List ℕ) → IsDistinct nat_eq list → (x y : ℕ) → x ≢ y → x < length list * entries_per_sector v → y < length list * entries_per_sector v
    → (slot_place v list x + 128 ≤ slot_place v list y) ⊎ (slot_place v list y + 128 ≤ slot_place v list x)
slots_apart v list d x y ne lx ly =
    let rx : x % entries_per_sector v < entries_per_sector v = mod-lt x (some_slots v) in
    let ry : y % entries_per_sector v < entries_per_sector v = mod-lt y (some_slots v) in
    let dx = div-add-mod' x (entries_per_sector v) in
    let dy = div-add-mod' y (entries_per_sector v) in
    elim (cases_eq (x / entries_per_sector v) (y / entries_per_sector v)) [
      | inl same ↦
          let base : sector_start v (slice_index list (x / entries_per_sector v)) ≡ sector_start v (slice_index list (y / entries_per_sector v)) =
          ap (λ q. sector_start v (slice_index list q)) same in
          let prod : x / entries_per_sector v * entries_per_sector v ≡ y / entries_per_sector v * entries_per_sector v = ap (λ q. q * entries_per_sector v) same in
          elim (cases_lt (x % entries_per_sector v) (y % entries_per_sector v)) [
            | inl less ↦ inl (omega (arith, base, less))
            | inr ge ↦ inr (let more : y % entries_per_sector v < x % entries_per_sector v = omega (arith, ge, ne, dx, dy, prod) in omega (arith, base, more))
          ]
      | inr other ↦
          let differ : slice_index list (x / entries_per_sector v) ≢ slice_index list (y / entries_per_sector v) = λ s.
          other (place_once list d (x / entries_per_sector v) (y / entries_per_sector v) (slot_sector v x (length list) lx) (slot_sector v y (length list) ly) s) in
          elim (cases_lt (slice_index list (x / entries_per_sector v)) (slice_index list (y / entries_per_sector v))) [
            | inl less ↦ inl (sector_before v _ _ (x % entries_per_sector v) (y % entries_per_sector v) less rx)
            | inr ge ↦ inr (sector_before v _ _ (y % entries_per_sector v) (x % entries_per_sector v) (omega (arith, ge, differ)) ry)
          ]
    ]

-- of the sectors its own alone has bytes of it
pub slot_outside : (a : AllocatorState) (sector index n : ℕ) → a.file.version ≡ a.tables.version → n ≡ 128 → index < entries_per_sector a.tables.version
    → IsNoTableSector a.tables sector → LieOutside (table_sectors a.tables) a.tables.version (place_in_sector a.file sector (index * 128)) n
slot_outside a sector index n same len low other i m =
    let v = a.tables.version in
    let lies : LiesIn v sector (place_in_sector a.file sector (index * 128)) n =
    subst (λ (u : Version). LiesIn v sector (sector_start u sector + index * 128) n) (sym same)
    (subst (λ k. LiesIn v sector (sector_start v sector + index * 128) k) (sym len) (slot_in_sector v sector index low)) in
    apart_from v sector i (place_in_sector a.file sector (index * 128)) n lies
    (λ e. elim (Contains-append_cases a.tables.fat_sectors a.tables.difat_sectors i m) [
      | inl f ↦ other.0 (subst (λ k. Contains a.tables.fat_sectors k) e f)
      | inr d ↦ other.1 (subst (λ k. Contains a.tables.difat_sectors k) e d)
    ])

-- ---- the header

header_before : (v : Version) (sector place i : ℕ) → i < sector_len v → i < sector_start v sector + place
header_before V3 sector place i low = omega arith
header_before V4 sector place i low = omega arith

pub header-outside : HeaderIsOutsideSlots
header-outside version sectors i k low = header_before version (slice_index sectors (k / entries_per_sector version)) (k % entries_per_sector version * 128) i low

-- ---- bytes that stay

-- a part of what stayed
part_stays : (from to at n : ℕ) (a b : List ℕ) → RangeStays from to a b → from ≤ at → at + n ≤ to → at + n ≤ length a → part b at n ≡ part a at n
part_stays from to at n a b stays low high within =
    let longer = stays.no_shorter in
    let la = length-part a at n in
    let lb = length-part b at n in
    same_number_lists (part b at n) (part a at n) (omega (arith, la, lb, longer, within)) (λ i lt.
    let small : i < n = omega (arith, lt, lb) in
    part_at b at n i small ∙ stays.each (at + i) (omega (arith, small, within)) (omega (arith, low)) (omega (arith, small, high)) ∙ sym (part_at a at n i small))

slot_before_next : (v : Version) (sector index : ℕ) → index < entries_per_sector v → sector_start v sector + index * 128 + 128 ≤ sector_start v (sector + 1)
slot_before_next V3 sector index low = omega arith
slot_before_next V4 sector index low = omega arith

-- a slot of sectors that keep their bytes
pub slot_stays : (v : Version) (old new list : List ℕ) (k : ℕ) → HasSectors v old list → KeepsSectors v list old new → k < length list * entries_per_sector v
    → slot_of v new list k ≡ slot_of v old list k
unfolding SectorStays
slot_stays v old new list k whole keeps lt =
    let sector = slice_index list (k / entries_per_sector v) in
    part_stays (sector_start v sector) (sector_start v (sector + 1)) (slot_place v list k) 128 old new (keeps sector (slot_member v list k lt))
    (omega arith) (slot_before_next v sector (k % entries_per_sector v) (mod-lt k (some_slots v))) (slot_inside v old list k whole lt)
