-- Stretches of bytes within a sector, and sectors that hold none of the tables (MS-CFB 2.1).
use Rattle.std.specs.Prelude.{ℕ, ◌+◌, ◌≤◌, Contains}
use Rattle.cfb_format.specs.declared.version.Version.{Version}
use Rattle.cfb_format.specs.Bytes.{sector_len, sector_start}
use Rattle.cfb_tables.specs.Tables.{TableState}

-- so many bytes from a place on lie in this sector
abbrev pub LiesIn : Version → ℕ → ℕ → ℕ → Type 0
LiesIn version sector start len = (sector_start version sector ≤ start) × (start + len ≤ sector_start version sector + sector_len version)

-- the sector is neither a FAT sector nor a DIFAT sector
abbrev pub IsNoTableSector : TableState → ℕ → Type 0
IsNoTableSector t sector = (Contains t.fat_sectors sector → ⊥) × (Contains t.difat_sectors sector → ⊥)
