-- What the functions over bytes promise.
use Rattle.std.specs.Prelude.{ℕ, ◌+◌, ◌*◌, ◌≡◌, ◌≢◌, ◌<◌, ◌⊎◌, Bool, List, true, false, count_by, length, ⊤}
use Rattle.cfb_format.specs.declared.error.Error.{Error}
use Rattle.cfb_format.specs.declared.error.Error.TheVariants.{Failed, Full, InvalidData, Medium, Memory}
use Rattle.cfb_format.specs.declared.medium.MediumFault.TheVariants as fault
use Rattle.cfb_format.specs.declared.version.Version.{Version}
use Rattle.cfb_format.specs.Bytes.{entries_per_sector, free_sector, max_regular_sector, sector_len, words_per_sector}
use Rattle.cfb_format.specs.Chain.{value}
use Rattle.cfb_format.specs.Content.{mini_sector_len}
use Rattle.cfb_format.specs.Full.{HasRoom, directory_sectors_for, free_count, is_unallocated, max_entries, max_mini_sectors, mini_sectors_for, rounded_up, sectors_for}
use Rattle.cfb_format.specs.Meaning.{Means, tree_of}
use Rattle.cfb_format.specs.Names.{Cases, default_cases}
use Rattle.cfb_format.specs.Reading.{HasReading, Reading, Reads}
use Rattle.cfb_format.specs.Soundness.{IsSound}
use Rattle.cfb_format.specs.Tree.{AreWhole, Objects, Tree, nothing, storage, stream}
use Rattle.cfb_commands.specs.declared.command.Command.{Command}
use Rattle.cfb_commands.specs.declared.command.Reply.{Reply as TheReply}
use Rattle.cfb_promise.specs.Errors.{AreTold}
use Rattle.cfb_promise.specs.Files.{File, Stands}
use Rattle.cfb_promise.specs.Promise.{IsAccepted, IsNew}
use Rattle.cfb_promise.specs.Steps.{Runs}
use Rattle.cfb_promise.specs.Tidy.{IsTidy}

-- the file that these bytes are, with these parts
abbrev pub file_with : List ℕ → Reading → File
file_with bytes r = record { bytes = bytes; reading = r; tree = tree_of bytes r; failed = false }

module _ {A : Type 0} where
  -- the commands led from the first file to one that has these bytes and stands, and can be opened again; it is tidy if the first one was
  pub record LeadsTo (cases : Cases) (version : Version) (first : File) (commands : List (Command A)) (replies : List (TheReply A)) (bytes : List ℕ) : Type 0 where
    pub last : File
    pub runs : Runs cases version true first commands replies last
    pub same_bytes : last.bytes ≡ bytes
    pub stands : Stands cases version last
    pub accepted : IsAccepted cases bytes
    pub tidy : IsTidy first.bytes first.reading → IsTidy last.bytes last.reading

  -- they led to a file that failed
  abbrev pub LeadsToFailed : Cases → Version → (sound : Bool) → (first : File) → List (Command A) → List (TheReply A) → Type 0
  LeadsToFailed cases version sound first commands replies = (last : File) × Runs cases version sound first commands replies last × (last.failed ≡ true)

  -- ---- from nothing

  -- the commands led from a new file to these bytes
  abbrev pub IsMade : Version → List (Command A) → List (TheReply A) → (bytes : List ℕ) → Type 0
  IsMade version commands replies bytes = (first : File) × IsNew version first × LeadsTo default_cases version first commands replies bytes

  -- memory was refused before the commands, be it to the bytes, and so much holds: then no reply is appended; or the commands broke off, which some
  -- reply tells
  abbrev pub IsNotMade : Version → List (Command A) → List (TheReply A) → (untouched : Type 0) → Error → Type 0
  IsNotMade version commands replies untouched (Medium fault.Memory) = untouched
  IsNotMade version commands replies untouched Memory = untouched
  IsNotMade version commands replies untouched Failed = AreTold replies × ((first : File) × IsNew version first × LeadsToFailed default_cases version true first commands replies)
  IsNotMade version commands replies untouched e = ⊥

  -- ---- from bytes

  -- from every file that stands and has these bytes, the commands led to those that are given back
  abbrev pub IsChanged : Cases → List ℕ → List (Command A) → List (TheReply A) → (given : List ℕ) → Type 0
  IsChanged cases bytes commands replies given = (v : Version) (first : File) → first.bytes ≡ bytes → Stands cases v first → LeadsTo cases v first commands replies given

  -- bytes that are not sound are given back as they came, and the commands led from the file that they are to itself: a change is refused
  pub record IsLeftAlone (cases : Cases) (bytes : List ℕ) (commands : List (Command A)) (replies : List (TheReply A)) (given : List ℕ) : Type 0 where
    pub same : given ≡ bytes
    pub runs : (r : Reading) → Reads cases bytes r → Runs cases r.header.version false (file_with bytes r) commands replies (file_with bytes r)

  -- opening does not take the bytes, or memory was refused before the commands, and so much holds: then no reply is appended; or opening takes them,
  -- and the commands broke off, which some reply tells: of a file that is not sound, too, they are a run by the rules
  abbrev pub IsNotChanged : Cases → List ℕ → List (Command A) → List (TheReply A) → (untouched : Type 0) → Error → Type 0
  IsNotChanged cases bytes commands replies untouched (InvalidData d) = (IsAccepted cases bytes → ⊥) × untouched
  IsNotChanged cases bytes commands replies untouched Memory = untouched
  IsNotChanged cases bytes commands replies untouched Failed = IsAccepted cases bytes × AreTold replies
      × ((version : Version) (first : File) → first.bytes ≡ bytes → Stands cases version first → LeadsToFailed cases version true first commands replies)
      × ((r : Reading) → Reads cases bytes r → (IsSound bytes r → ⊥) → LeadsToFailed cases r.header.version false (file_with bytes r) commands replies)
  IsNotChanged cases bytes commands replies untouched e = ⊥

-- ---- a copy

-- the copy has the same version and means the same tree; it is tidy, none of its sectors and mini sectors is free, and fewer of its entries are
-- unallocated than a sector has
pub record IsPackedFrom (cases : Cases) (bytes copy : List ℕ) : Type 0 where
  pub same_version : (r s : Reading) → Reads cases bytes r → Reads cases copy s → s.header.version ≡ r.header.version
  pub means : (tree : Tree) → Means cases bytes tree → Means cases copy tree
  pub accepted : IsAccepted cases copy
  pub tidy : HasReading cases copy (λ r. IsTidy copy r × ((i : ℕ) → i < length r.fat → value r.fat i ≢ free_sector) × (free_count r.minifat ≡ 0)
      × (count_by (λ e. is_unallocated e.obj_type) r.entries < entries_per_sector r.header.version))

-- a sum over the objects: this number for each storage, and one by its length for each stream
abbrev pub total : (for_storage : ℕ) → (for_len : ℕ → ℕ) → Objects → ℕ
total for_storage for_len nothing = 0
total for_storage for_len (storage name info inside rest) = for_storage + total for_storage for_len inside + total for_storage for_len rest
total for_storage for_len (stream name info rest) = for_len info.len + total for_storage for_len rest

-- all sectors of a file that has these objects and nothing else, its FAT and DIFAT aside
abbrev pub sectors_for_all : Version → Objects → ℕ
sectors_for_all version objects = total 0 (sectors_for version) objects + rounded_up (total 0 mini_sectors_for objects * mini_sector_len) (sector_len version)
    + rounded_up (total 0 mini_sectors_for objects) (words_per_sector version) + directory_sectors_for version (total 1 (λ len. 1) objects)

-- no file of this version has room for them
abbrev pub AreTooMany : Version → (limit : ℕ) → Objects → Type 0
AreTooMany version limit objects = (HasRoom version limit 0 0 0 (sectors_for_all version objects) → ⊥) ⊎ (max_mini_sectors version < total 0 mini_sectors_for objects)
    ⊎ (max_entries < directory_sectors_for version (total 1 (λ len. 1) objects) * entries_per_sector version)

-- opening does not take the bytes, or some stream can't be read to its end; opening takes them and all can, but no file of this version has room for
-- the tree; or memory was refused
abbrev pub IsNotPacked : Cases → List ℕ → Error → Type 0
IsNotPacked cases bytes (InvalidData d) = IsAccepted cases bytes → (tree : Tree) → Means cases bytes tree → AreWhole tree.objects → ⊥
IsNotPacked cases bytes Full = IsAccepted cases bytes × ((r : Reading) → Reads cases bytes r → AreWhole (tree_of bytes r).objects × AreTooMany r.header.version max_regular_sector (tree_of bytes r).objects)
IsNotPacked cases bytes (Medium fault.Memory) = ⊤
IsNotPacked cases bytes Memory = ⊤
IsNotPacked cases bytes e = ⊥
