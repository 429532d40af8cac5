-- Sectors of which only the medium's bytes and failures may be others.
use Rattle.std.proofs.Common.{◌≡◌, ℕ, ◌+◌, List, ◌∙◌, ap}
use Rattle.std.specs.Prelude.{nat_le}
use Rattle.std.specs.List.{list_all}
use Rattle.cfb_format.specs.Bytes.{sector_len, sector_start, is_whole_sector}
use Rattle.cfb_sectors.specs.Sectors.{SectorFile}
use Rattle.cfb_alloc.specs.Alloc.{IsMeasured}
use Rattle.cfb_reading.specs.Difat.{has_sector}

-- all is as before but for these two
abbrev pub IsRead : SectorFile → SectorFile → Type 0
IsRead old new = new ≡ record old { bytes = new.bytes; failures = new.failures }

pub read-then : (old file new : SectorFile) → IsRead old file → IsRead file new → IsRead old new
read-then old file new a b = b ∙ ap (λ (f : SectorFile). record f { bytes = new.bytes; failures = new.failures }) a

pub same-sector : (old file : SectorFile) → IsRead old file → (i : ℕ) → has_sector file i ≡ has_sector old i
same-sector old file a i = ap (λ (f : SectorFile). has_sector f i) a

pub same-sectors : (old file : SectorFile) → IsRead old file → (list : List ℕ) → list_all (has_sector file) list ≡ list_all (has_sector old) list
same-sectors old file a list = ap (λ (f : SectorFile). list_all (has_sector f) list) a

-- all there, where the length is that of the bytes
pub whole-there : (file : SectorFile) (i : ℕ) → IsMeasured file → has_sector file i ≡ is_whole_sector file.version file.bytes i
whole-there file i measured = ap (λ n. nat_le (sector_start file.version i + sector_len file.version) n) measured
