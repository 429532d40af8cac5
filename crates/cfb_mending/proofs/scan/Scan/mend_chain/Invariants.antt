use Rattle.std.proofs.Common.{◌≡◌, ◌<◌, ◌^◌, ◌-◌, ◌++◌, ℕ, List, IsTrue, length}
use Rattle.std.specs.Prelude.{Some}
use Rattle.std.specs.List.{All}
use Rattle.cfb_mending.specs.Missing.{chain_from, chain_patches, known_of}
use Rattle.cfb_mending.specs.Tables.{AreInTables, IsChainLink, IsOnChain}
use Rattle.cfb_mending.proofs.InTables.{IsWordOfTable}
use Rattle.cfb_mending.proofs.scan.Scan.mend_chain.Given as goal

abbrev pub invariant-loop-turn : goal.invariant-loop-turn
invariant-loop-turn g l =
    let version = l.tables.bounds.version in
    let bytes = g.F.ReadMedium.bytes l.fn.self.medium in
    let fat = l.tables.fat.items in
    let known = known_of version l.tables.bounds.sectors fat in
    let left = l.tables.bounds.sectors - l._turn in
    record {
      bound : l.at < 2 ^ 63;
      same : IsTrue g.F.ReadMedium.tells → g.F.ReadMedium.bytes l.self.medium ≡ bytes;
      link : IsTrue g.F.ReadMedium.tells → IsChainLink version bytes fat l.start_at l.at;
      word : IsTrue g.F.ReadMedium.tells → IsWordOfTable version bytes fat l.at;
      chain : IsTrue g.F.ReadMedium.tells → All (IsOnChain version bytes fat l.start_at) l.chain.items;
      mends : IsTrue g.F.ReadMedium.tells → AreInTables version bytes fat l.fn.self.patches.items → AreInTables version bytes fat l.self.patches.items;
      exact : IsTrue g.F.ReadMedium.tells → (file : List ℕ) → bytes ≡ file → l.tables.bounds.len ≡ length file
          → l.chain.items ++ chain_from version file fat known left (Some l.at) ≡ chain_from version file fat known l.tables.bounds.sectors (Some l.start_at);
      ends : IsTrue g.F.ReadMedium.tells → (file : List ℕ) → bytes ≡ file → l.tables.bounds.len ≡ length file
          → l.self.patches.items ++ chain_patches version file fat known left (Some l.at) ≡ l.fn.self.patches.items ++ chain_patches version file fat known l.tables.bounds.sectors (Some l.start_at);
    }
