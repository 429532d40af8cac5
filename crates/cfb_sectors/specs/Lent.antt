-- What is seen of a sector that is lent.
use Rattle.std.specs.Prelude.{◌≡◌, ℕ, ◌+◌, ◌-◌, Result}
use Rattle.std.specs.Borrow.{RattleType, MutBor, Fml, RestsIfErr}
use Rattle.cfb_format.specs.declared.error.Error.{Error}
use Rattle.cfb_format.specs.declared.medium.ReadMedium as medium
use Rattle.cfb_sectors.specs.Sectors.{SectorFile}
use Rattle.cfb_sectors.specs.declared.sector.Sector.{Sector}
use Rattle.cfb_sectors.specs.contracts.sector.Sectors.{the_row}

module _ {F : Type 0} {g : medium.Ghosts F} where
  -- the file that it is borrowed from
  abbrev pub file_of : Sector F g → MutBor SectorFile
  file_of s = s.file

  -- where it begins in the file, how long it is, and how far into it the next byte lies
  abbrev pub start_of : Sector F g → ℕ
  start_of s = s.start

  abbrev pub len_of : Sector F g → ℕ
  len_of s = s.len

  abbrev pub offset_of : Sector F g → ℕ
  offset_of s = s.offset

  -- where its next byte lies in the file, and how many it has from there on
  abbrev pub place_of : Sector F g → ℕ
  place_of s = s.start + s.offset

  abbrev pub room_of : Sector F g → ℕ
  room_of s = s.len - s.offset

module _ (F : RattleType) (g : medium.Ghosts F.Denot) where
  -- the sectors are as before where none was lent
  abbrev pub sectors_rest : MutBor SectorFile → Result (Sector F.Denot g) Error → Fml
  sectors_rest f r = RestsIfErr (the_row F g) f (λ s. (file_of s).ghost_name) r (λ last. last ≡ f.now)
