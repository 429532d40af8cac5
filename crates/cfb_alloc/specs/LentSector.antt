-- What is seen of a stretch of a file whose allocator is lent.
use Rattle.std.specs.Prelude.{◌≡◌, ℕ, ◌+◌, ◌-◌, Result}
use Rattle.std.specs.Borrow.{RattleType, MutBor, Fml, RestsIfErr}
use Rattle.std.specs.declared.alloc.Allocator as heap
use Rattle.cfb_format.specs.declared.error.Error.{Error}
use Rattle.cfb_format.specs.declared.medium.ReadMedium as medium
use Rattle.cfb_format.specs.declared.version.Version.{Version}
use Rattle.cfb_alloc.specs.Alloc.{AllocatorState}
use Rattle.cfb_alloc.specs.declared.seeking.AllocatedSector.{AllocatedSector}
use Rattle.cfb_alloc.specs.contracts.alloc.Allocator.{the_row}

module _ {F A : Type 0} {g : medium.Ghosts F} where
  -- the allocator that it is borrowed from
  abbrev pub allocator_of : AllocatedSector F A g → MutBor AllocatorState
  allocator_of s = s.allocator

  abbrev pub version_of : AllocatedSector F A g → Version
  version_of s = s.allocator.now.tables.version

  -- where it begins in the file, how long it is, and how far into it the next byte lies
  abbrev pub start_of : AllocatedSector F A g → ℕ
  start_of s = s.start

  abbrev pub len_of : AllocatedSector F A g → ℕ
  len_of s = s.len

  abbrev pub offset_of : AllocatedSector F A g → ℕ
  offset_of s = s.offset

  -- where its next byte lies in the file, and how many it has from there on
  abbrev pub place_of : AllocatedSector F A g → ℕ
  place_of s = s.start + s.offset

  abbrev pub room_of : AllocatedSector F A g → ℕ
  room_of s = s.len - s.offset

module _ (F A : RattleType) (g : medium.Ghosts F.Denot) (h : heap.Ghosts A.Denot) where
  -- the allocator is as before where nothing was lent
  abbrev pub lender_rests : MutBor AllocatorState → Result (AllocatedSector F.Denot A.Denot g) Error → Fml
  lender_rests a r = RestsIfErr (the_row F A g h) a (λ s. (allocator_of s).ghost_name) r (λ last. last ≡ a.now)
