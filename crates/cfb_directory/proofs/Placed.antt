-- A directory that the bytes hold has its places, and its slots stay where they are not written.
use Rattle.std.proofs.Common.{◌≡◌, ◌≢◌, ◌≤◌, ◌<◌, ◌+◌, ◌*◌, ◌/◌, inl, inr, ℕ, List, [], ◌∷◌, true, refl, sym, ◌∙◌, subst, length, arith}
use Rattle.std.specs.Prelude.{slice_index, nat_eq, Contains}
use Rattle.std.specs.List.{IsDistinct}
use Rattle.std.proofs.lemmas.Bool.{cases_eq, cases_lt}
use Rattle.std.proofs.lemmas.Grind.{same_number_lists}
use Rattle.cfb_format.specs.declared.version.Version.{Version}
use Rattle.cfb_format.specs.declared.version.Version.TheVariants.{V3, V4}
use Rattle.cfb_format.specs.declared.validate.Validation.{Validation}
use Rattle.cfb_format.specs.Bytes.{sector_len, sector_start, entries_per_sector}
use Rattle.cfb_format.specs.Medium.{part}
use Rattle.cfb_format.proofs.Along.{next_start}
use Rattle.cfb_format.proofs.ByteLemmas.{part_at, length-part}
use Rattle.cfb_sectors.specs.Sectors.{SectorStays}
use Rattle.cfb_directory.specs.cfb_tables.Tables.{first_or_end}
use Rattle.cfb_directory.proofs.cfb_tables.ChainLemmas.{members-busy}
use Rattle.cfb_alloc.specs.Agreement.{HasSectors}
use Rattle.cfb_alloc.specs.Alloc.{AllocatorState, HoldsTables}
use Rattle.cfb_alloc.specs.Frame.{Spares}
use Rattle.cfb_alloc.specs.InSector.{IsNoTableSector}
use Rattle.cfb_alloc.proofs.HeldOrder.{members-no_table}
use Rattle.cfb_slots.specs.Slots.{ChangesSlots, HavePlaces, slot_of, slot_place}
use Rattle.cfb_directory.specs.State.{DirectoryState, HoldsDirectory, directory_version, directory_tables}
use Rattle.cfb_slots.proofs.SlotPlaces.{header-outside, slot_fits, slot_inside, slot_member, slots_apart}
use Rattle.cfb_format.proofs.Members.{Contains-here}

-- its sectors have a slot for each entry
pub held_places : (validation : Validation) (d : DirectoryState) → HoldsDirectory validation d → HavePlaces (directory_version d) d.sectors (length d.entries) (length (directory_tables d).fat)
held_places validation d h = record {
  slots = h.slots.count;
  within = λ i m. (members-busy (directory_tables d).fat (first_or_end d.sectors) d.sectors h.chain i m).1;
}

-- none of them holds the tables
pub held_no_tables : (validation : Validation) (d : DirectoryState) → HoldsDirectory validation d → (i : ℕ) → Contains d.sectors i → IsNoTableSector (directory_tables d) i
held_no_tables validation d h = members-no_table validation d.table (first_or_end d.sectors) d.sectors h.tables h.chain

-- a file with a sector has its header
pub header_there : (v : Version) (bytes list : List ℕ) → list ≢ [] → HasSectors v bytes list → (512 ≤ length bytes) × (sector_len v ≤ length bytes)
header_there v bytes [] some whole = absurd (some refl)
header_there V3 bytes (x ∷ list) some whole = let w : (x + 1) * 512 + 512 ≤ length bytes = whole x (Contains-here x list) in (omega (arith, w), omega (arith, w))
header_there V4 bytes (x ∷ list) some whole = let w : (x + 1) * 4096 + 4096 ≤ length bytes = whole x (Contains-here x list) in (omega (arith, w), omega (arith, w))

-- a slot that is none of those written
pub slot_left : (touched : List ℕ) (v : Version) (sectors old new : List ℕ) (k : ℕ) → IsDistinct nat_eq sectors → HasSectors v old sectors
    → ChangesSlots touched v sectors old new → ((j : ℕ) → Contains touched j → j < length sectors * entries_per_sector v)
    → k < length sectors * entries_per_sector v → (Contains touched k → ⊥) → slot_of v new sectors k ≡ slot_of v old sectors k
slot_left touched v sectors old new k once whole changes within lk out =
    let at = slot_place v sectors k in
    let inside : at + 128 ≤ length old = slot_inside v old sectors k whole lk in
    let longer = changes.no_shorter in
    let la = length-part old at 128 in
    let lb = length-part new at 128 in
    same_number_lists (part new at 128) (part old at 128) (omega (arith, la, lb, longer, inside)) (λ i lt.
    let small : i < 128 = omega (arith, lt, lb) in
    part_at new at 128 i small
    ∙ changes.others (at + i) (omega (arith, small, inside)) (λ j m.
    let lj = within j m in
    let ne : k ≢ j = λ e. out (subst (Contains touched) (sym e) m) in
    elim (slots_apart v sectors once k j ne lk lj) [ inl before ↦ inl (omega (arith, before, small)) | inr behind ↦ inr (omega (arith, behind)) ])
    ∙ sym (part_at old at 128 i small))

-- a sector that has none of these slots
sector_after : (v : Version) (a b : ℕ) → a < b → sector_start v (a + 1) ≤ sector_start v b
sector_after V3 a b less = omega arith
sector_after V4 a b less = omega arith

pub sector_left : (touched : List ℕ) (v : Version) (sectors old new : List ℕ) → ChangesSlots touched v sectors old new
    → ((k : ℕ) → Contains touched k → k < length sectors * entries_per_sector v) → (i : ℕ) → (Contains sectors i → ⊥) → SectorStays v i old new
unfolding SectorStays
sector_left touched v sectors old new changes within i out = record {
  no_shorter = changes.no_shorter;
  each = λ p lt low high. changes.others p lt (λ k m.
      let n = slice_index sectors (k / entries_per_sector v) in
      let fits = slot_fits v k in
      let end = next_start v n in
      elim (cases_eq i n) [
        | inl same ↦ absurd (out (subst (Contains sectors) (sym same) (slot_member v sectors k (within k m))))
        | inr other ↦ elim (cases_lt i n) [
          | inl less ↦ inl (let next = sector_after v i n less in omega (arith, high, next))
          | inr from ↦ inr (let next = sector_after v n i (omega (arith, from, other)) in omega (arith, low, next, fits, end))
        ]
      ]);
}

-- a directory whose sectors are placed keeps the others as it writes slots of its entries
pub others_left : (touched : List ℕ) (v : Version) (sectors old new : List ℕ) (entries count : ℕ) → HavePlaces v sectors entries count → ChangesSlots touched v sectors old new
    → ((k : ℕ) → Contains touched k → k < entries) → (i : ℕ) → (Contains sectors i → ⊥) → SectorStays v i old new
others_left touched v sectors old new entries count placed changes within =
    sector_left touched v sectors old new changes (λ k m. let low = within k m in let all = placed.slots in omega (arith, low, all))

-- the header lies before all slots
pub header_left : (touched : List ℕ) (v : Version) (sectors old new : List ℕ) → ChangesSlots touched v sectors old new
    → (i : ℕ) → i < length old → i < sector_len v → slice_index new i ≡ slice_index old i
header_left touched v sectors old new changes i lt low = changes.others i lt (λ k m. inl (header-outside v sectors i k low))

-- ---- a change that was begun

-- the allocator once a change was begun
abbrev pub begun_as : AllocatorState → AllocatorState
begun_as a = record a { file = record a.file { begun = true } }

pub begun_holds : (validation : Validation) (a : AllocatorState) → HoldsTables validation a → HoldsTables validation (begun_as a)
begun_holds validation a h = record {
  holds = record { measured = h.holds.measured; listed = h.holds.listed; agrees = h.holds.agrees; strict = h.holds.strict; apart = h.holds.apart };
  clean = h.clean;
}

pub begun_spares : (own : List ℕ) (a new : AllocatorState) → Spares own (begun_as a) new → Spares own a new
begun_spares own a new s = record {
  same_version = s.same_version;
  no_shorter = s.no_shorter;
  values = s.values;
  kept = s.kept;
  tables = λ i f. s.tables i (record { busy = f.busy; other = f.other; no_table = f.no_table });
  sectors = λ i f. s.sectors i (record { busy = f.busy; other = f.other; no_table = f.no_table });
  header = s.header;
}
