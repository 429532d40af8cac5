use Rattle.std.proofs.Common.{◌≡◌, ◌≤◌, ℕ, List, IsTrue, length}
use Rattle.cfb_mending.specs.Missing.{used_words}
use Rattle.cfb_mending.proofs.scan.Scan.minifat_len.Given as goal

abbrev pub invariant-loop-count : goal.invariant-loop-count
invariant-loop-count g l =
    record {
      most : l.count ≤ length l.minifat;
      same : IsTrue g.F.ReadMedium.tells → g.F.ReadMedium.bytes l.self.medium ≡ g.F.ReadMedium.bytes l.fn.self.medium;
      stays : l.self.patches.items ≡ l.fn.self.patches.items;
      exact : IsTrue g.F.ReadMedium.tells → (bytes : List ℕ) → g.F.ReadMedium.bytes l.fn.self.medium ≡ bytes → l.tables.bounds.len ≡ length bytes
          → used_words l.tables.bounds.version bytes l.minifat l.count ≡ used_words l.tables.bounds.version bytes l.minifat (length l.minifat);
    }

abbrev pub decreases-loop-count : goal.decreases-loop-count
decreases-loop-count g l = l.count
