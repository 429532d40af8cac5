use Rattle.std.proofs.Common.{◌≡◌, ◌<◌, ◌^◌, ◌-◌, ◌++◌, ℕ, List, IsTrue, length}
use Rattle.std.specs.List.{All}
use Rattle.cfb_mending.specs.Listing.{listed_from, listed_patches}
use Rattle.cfb_mending.specs.Missing.{first_difat_link}
use Rattle.cfb_mending.specs.Tables.{AreInTables, IsDifatLink, IsFatSector}
use Rattle.cfb_mending.proofs.scan.Scan.list_in_sectors.Given as goal

abbrev pub invariant-loop-turn : goal.invariant-loop-turn
invariant-loop-turn g l =
    let version = l.bounds.version in
    let bytes = g.F.ReadMedium.bytes l.fn.self.medium in
    record {
      bound : l.link < 2 ^ 63;
      same : IsTrue g.F.ReadMedium.tells → g.F.ReadMedium.bytes l.self.medium ≡ bytes;
      link : IsTrue g.F.ReadMedium.tells → IsDifatLink version bytes l.link;
      listed : IsTrue g.F.ReadMedium.tells → All (IsFatSector version bytes) l.fn.fat.items → All (IsFatSector version bytes) l.fat.items;
      mends : IsTrue g.F.ReadMedium.tells → (table : List ℕ) → AreInTables version bytes table l.fn.self.patches.items → AreInTables version bytes table l.self.patches.items;
      named : IsTrue g.F.ReadMedium.tells → (file : List ℕ) → bytes ≡ file → l.bounds.len ≡ length file
          → l.fat.items ++ listed_from version file l.bounds.sectors (l.bounds.sectors - l._turn) l.is_cut l.link
          ≡ l.fn.fat.items ++ listed_from version file l.bounds.sectors l.bounds.sectors l.fn.is_cut first_difat_link;
      patched : IsTrue g.F.ReadMedium.tells → (file : List ℕ) → bytes ≡ file → l.bounds.len ≡ length file
          → l.self.patches.items ++ listed_patches version file l.bounds.sectors (l.bounds.sectors - l._turn) l.is_cut l.link
          ≡ l.fn.self.patches.items ++ listed_patches version file l.bounds.sectors l.bounds.sectors l.fn.is_cut first_difat_link;
    }
