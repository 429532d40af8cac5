-- A compound file as sectors over bytes (MS-CFB 2.1).
use Rattle.std.specs.Prelude.{◌≡◌, ℕ, zero, suc, ◌+◌, ◌-◌, ◌/◌, Bool, true, List, [], ◌∷◌, ◌++◌, replicate}
use Rattle.cfb_format.specs.Bytes.{sector_len, sector_start, words_per_sector, entries_per_sector, word_bytes, free_sector, end_of_chain}
use Rattle.cfb_format.specs.DirectoryEntry.{entry_bytes, unallocated_entry}
use Rattle.cfb_format.specs.Refused.{number_of}
use Rattle.cfb_format.specs.declared.error.Error.{Error}
use Rattle.cfb_format.specs.declared.version.Version.{Version}
use Rattle.cfb_sectors.specs.Words.{Apart, RangeStays}
use Rattle.cfb_sectors.specs.declared.sector.SectorInit.{SectorInit}
use Rattle.cfb_sectors.specs.declared.sector.SectorInit.TheVariants.{Zero, Fat, Difat, Dir}

-- what is seen of it
pub record SectorFile : Type 0 where
  pub version : Version
  -- how much is known to be there, in bytes
  pub len : ℕ
  -- the sectors of the file, and those that were reserved past its end
  pub num_sectors : ℕ
  -- the medium's
  pub bytes : List ℕ
  pub failures : ℕ
  -- a write or a flush of the medium was asked for
  pub begun : Bool

-- how many sectors so many bytes hold; a last one that is cut short counts
abbrev pub sectors_in_file : Version → ℕ → ℕ
sectors_in_file version len = (len + (sector_len version - 1)) / sector_len version - 1

-- the place of a sector's byte in the file
abbrev pub place_in_sector : SectorFile → ℕ → ℕ → ℕ
place_in_sector f sector offset = sector_start f.version sector + offset

-- where the last sector ends, or would, were it whole
abbrev pub sectors_end : SectorFile → ℕ
sectors_end f = sector_start f.version f.num_sectors

-- the medium failed
abbrev pub IsMediumError : Error → Type 0
IsMediumError e = number_of e ≡ 5

-- the flag that a change was begun stays up, and is up where something was to be written
abbrev pub IsRaised : Type 0 → SectorFile → SectorFile → Type 0
IsRaised wrote old new = (old.begun ≡ true → new.begun ≡ true) × (wrote → new.begun ≡ true)

-- the bytes of sector i are as before
unfoldable pub SectorStays : Version → ℕ → List ℕ → List ℕ → Type 0
SectorStays version i old new = RangeStays (sector_start version i) (sector_start version (i + 1)) old new

-- every sector that lies apart from n bytes at a place is as before
abbrev pub OtherSectorsStay : Version → ℕ → ℕ → List ℕ → List ℕ → Type 0
OtherSectorsStay version at n old new = (i : ℕ) → Apart (sector_start version i) (sector_len version) at n → SectorStays version i old new

-- ---- fresh sectors

-- so many times the same bytes
abbrev pub copies : ℕ → List ℕ → List ℕ
copies zero bytes = []
copies (suc k) bytes = bytes ++ copies k bytes

-- what each kind of fresh sector holds
unfoldable pub init_bytes : Version → SectorInit → List ℕ
init_bytes version Zero = replicate (sector_len version) 0
init_bytes version Fat = word_bytes (replicate (words_per_sector version) free_sector)
init_bytes version Difat = word_bytes (replicate (words_per_sector version - 1) free_sector ++ end_of_chain ∷ [])
init_bytes version Dir = copies (entries_per_sector version) (entry_bytes unallocated_entry)
