-- What the words on the directory's slots promise about each other (MS-CFB 2.6).
use Rattle.std.specs.Prelude.{ℕ, ◌≡◌, ◌<◌, List, [], ◌∷◌, ◌++◌, length, replicate, Contains}
use Rattle.std.specs.List.{AllZip}
use Rattle.cfb_format.specs.declared.version.Version.{Version}
use Rattle.cfb_format.specs.declared.validate.Validation.{Validation}
use Rattle.cfb_format.specs.Bytes.{entries_per_sector, sector_len}
use Rattle.cfb_format.specs.DirectoryEntry.{Entry, IsEntry, IsStrictEntry, slots, unallocated_entry}
use Rattle.cfb_format.specs.Header.{IfStrict}
use Rattle.cfb_format.specs.Siblings.{entry_at}
use Rattle.cfb_slots.specs.cfb_sectors.declared.sector.SectorInit.TheVariants.{Dir}
use Rattle.cfb_alloc.specs.Agreement.{HasSectors, KeepsSectors}
use Rattle.cfb_alloc.specs.Alloc.{IsAsFilled}
use Rattle.cfb_slots.specs.Slots.{HoldSlotsBut, slot_place}

-- where each slot holds its entry, the slots are those of the entries, one by one, as this mode takes them
abbrev pub SlotsByPlace : Type 0
SlotsByPlace = (validation : Validation) (version : Version) (bytes sectors : List ℕ) (entries : List Entry)
    → HoldSlotsBut [] validation version bytes sectors entries
    → AllZip (IsEntry version) (slots version bytes sectors) entries
    × IfStrict validation (AllZip (IsStrictEntry version) (slots version bytes sectors) entries)
    × (length (slots version bytes sectors) ≡ length entries)

-- and the other way around
abbrev pub SlotsAtPlaces : Type 0
SlotsAtPlaces = (validation : Validation) (version : Version) (bytes sectors : List ℕ) (entries : List Entry)
    → AllZip (IsEntry version) (slots version bytes sectors) entries
    → IfStrict validation (AllZip (IsStrictEntry version) (slots version bytes sectors) entries)
    → HoldSlotsBut [] validation version bytes sectors entries

-- where the sectors keep their bytes, their slots hold the same
abbrev pub SlotsStay : Type 0
SlotsStay = (late : List ℕ) (validation : Validation) (version : Version) (old new sectors : List ℕ) (entries : List Entry)
    → HoldSlotsBut late validation version old sectors entries → HasSectors version old sectors → KeepsSectors version sectors old new
    → HoldSlotsBut late validation version new sectors entries

-- the slots of one more sector that is fresh hold unallocated entries
abbrev pub FreshSlotsAreHeld : Type 0
FreshSlotsAreHeld = (late : List ℕ) (validation : Validation) (version : Version) (bytes sectors : List ℕ) (entries : List Entry) (x : ℕ)
    → HoldSlotsBut late validation version bytes sectors entries → IsAsFilled version Dir bytes x
    → HoldSlotsBut late validation version bytes (sectors ++ x ∷ []) (entries ++ replicate (entries_per_sector version) unallocated_entry)

-- entries that change make their slots late, and the others are held as before
abbrev pub EntriesThatStayAreHeld : Type 0
EntriesThatStayAreHeld = (touched late : List ℕ) (validation : Validation) (version : Version) (bytes sectors : List ℕ) (old new : List Entry)
    → HoldSlotsBut late validation version bytes sectors old → length new ≡ length old
    → ((k : ℕ) → (Contains touched k → ⊥) → entry_at new k ≡ entry_at old k)
    → HoldSlotsBut (touched ++ late) validation version bytes sectors new

-- the header takes the place of a sector, before all slots
abbrev pub HeaderIsOutsideSlots : Type 0
HeaderIsOutsideSlots = (version : Version) (sectors : List ℕ) (i k : ℕ) → i < sector_len version → i < slot_place version sectors k
