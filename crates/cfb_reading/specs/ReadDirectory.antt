-- The directory, as it is read off the medium (MS-CFB 2.6).
use Rattle.std.specs.Prelude.{ℕ, ◌≡◌, ◌≢◌, ◌*◌, ◌<◌, ◌≤◌, List, [], ◌++◌, length}
use Rattle.std.specs.List.{AllZip}
use Rattle.cfb_format.specs.declared.version.Version.{Version}
use Rattle.cfb_format.specs.declared.validate.Validation.{Validation}
use Rattle.cfb_format.specs.Bytes.{entries_per_sector, max_stream_len}
use Rattle.cfb_format.specs.Chain.{IsChain}
use Rattle.cfb_format.specs.DirectoryEntry.{Entry, EntryFits, AcceptsEntry, IsStrictEntry, slots}
use Rattle.cfb_format.specs.Full.{max_entries}
use Rattle.cfb_format.specs.Header.{IfStrict}
use Rattle.cfb_format.specs.Names.{max_name_len, utf16_units}
use Rattle.cfb_format.specs.Reading.{IsDirectory}
use Rattle.cfb_format.specs.Siblings.{entry_at}

-- opening in this mode takes these sectors for the directory that begins there, with these entries in their slots
pub record AcceptsDirectory (validation : Validation) (version : Version) (bytes fat : List ℕ) (first : ℕ) (sectors : List ℕ) (entries : List Entry) : Type 0 where
  pub directory : IsDirectory version bytes fat first sectors entries
  pub strict : IfStrict validation (AllZip (IsStrictEntry version) (slots version bytes sectors) entries)

-- opening in this mode takes no sectors for it
abbrev pub NoDirectory : Validation → Version → List ℕ → List ℕ → ℕ → Type 0
NoDirectory validation version bytes fat first = (sectors : List ℕ) (entries : List Entry) → AcceptsDirectory validation version bytes fat first sectors entries → ⊥

-- these are the sectors of a directory that begins there, as far as their bytes say nothing
pub record IsDirectoryChain (version : Version) (fat : List ℕ) (first : ℕ) (sectors : List ℕ) : Type 0 where
  pub chain : IsChain fat first sectors
  pub some : sectors ≢ []
  pub most : length sectors * entries_per_sector version ≤ max_entries

-- the chain from there has a sector, and as many slots as there are entries
pub record FillsSlots (version : Version) (fat : List ℕ) (first : ℕ) (sectors : List ℕ) (entries : ℕ) : Type 0 where
  pub chain : IsChain fat first sectors
  pub some : sectors ≢ []
  pub count : entries ≡ length sectors * entries_per_sector version

-- the entry is what this mode reads in that slot, and its name and the numbers in it can be written again
pub record ReadsSlot (validation : Validation) (version : Version) (slot : List ℕ) (e : Entry) : Type 0 where
  pub accepted : AcceptsEntry validation version slot e
  pub name : length (utf16_units e.name) ≤ max_name_len
  pub fits : EntryFits e

-- whatever the medium served: each entry is what this mode reads in some slot, and its length is one that a stream may have
pub record AreFromSlots (validation : Validation) (version : Version) (entries : List Entry) : Type 0 where
  pub slot : (k : ℕ) → k < length entries → (slot : List ℕ) × ReadsSlot validation version slot (entry_at entries k)
  pub stream_len : (k : ℕ) → k < length entries → (entry_at entries k).stream_len ≤ max_stream_len version

-- the entries that this mode reads in these slots were appended
pub record AppendsSlots (validation : Validation) (version : Version) (read : List (List ℕ)) (old new : List Entry) : Type 0 where
  pub more : List Entry
  pub each : AllZip (ReadsSlot validation version) read more
  pub appended : new ≡ old ++ more
