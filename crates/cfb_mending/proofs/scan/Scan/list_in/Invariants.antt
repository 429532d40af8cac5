use Rattle.std.proofs.Common.{◌≡◌, ◌++◌, ◌+◌, ◌-◌, ◌*◌, ℕ, List, IsTrue, length}
use Rattle.std.specs.List.{All}
use Rattle.cfb_mending.specs.Listing.{is_named_cut, named_from, named_patches}
use Rattle.cfb_mending.specs.Tables.{IsFatSector}
use Rattle.cfb_mending.proofs.scan.Scan.list_in.Given as goal

abbrev pub invariant-loop-index : goal.invariant-loop-index
invariant-loop-index g l =
    let version = l.bounds.version in
    let bytes = g.F.ReadMedium.bytes l.fn.self.medium in
    let n = l.bounds.sectors in
    record {
      same : IsTrue g.F.ReadMedium.tells → g.F.ReadMedium.bytes l.self.medium ≡ bytes;
      stays : l.self.patches.items ≡ l.fn.self.patches.items;
      listed : IsTrue g.F.ReadMedium.tells → All (IsFatSector version bytes) l.fn.fat.items → All (IsFatSector version bytes) l.fat.items;
      named : IsTrue g.F.ReadMedium.tells → (file : List ℕ) → bytes ≡ file → l.bounds.len ≡ length file
          → l.fat.items ++ named_from n file (l.at + 4 * l.index) (l.count - l.index) ≡ l.fn.fat.items ++ named_from n file l.at l.count;
      patched : IsTrue g.F.ReadMedium.tells → (file : List ℕ) → bytes ≡ file → l.bounds.len ≡ length file
          → named_patches n file (l.at + 4 * l.index) (l.count - l.index) ≡ named_patches n file l.at l.count;
      ends : IsTrue g.F.ReadMedium.tells → (file : List ℕ) → bytes ≡ file → l.bounds.len ≡ length file
          → is_named_cut n file (l.at + 4 * l.index) (l.count - l.index) ≡ is_named_cut n file l.at l.count;
    }
