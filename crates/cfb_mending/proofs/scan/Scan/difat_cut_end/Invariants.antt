use Rattle.std.proofs.Common.{◌≡◌, ◌<◌, ◌^◌, ◌-◌, ℕ, List, IsTrue, length}
use Rattle.cfb_mending.specs.Missing.{cut_end, difat_from, first_difat_link}
use Rattle.cfb_mending.proofs.scan.Scan.difat_cut_end.Given as goal

abbrev pub invariant-loop-turn : goal.invariant-loop-turn
invariant-loop-turn g l =
    let version = l.bounds.version in
    record {
      bound : l.link < 2 ^ 63;
      same : IsTrue g.F.ReadMedium.tells → g.F.ReadMedium.bytes l.self.medium ≡ g.F.ReadMedium.bytes l.fn.self.medium;
      stays : l.self.patches.items ≡ l.fn.self.patches.items;
      exact : IsTrue g.F.ReadMedium.tells → (bytes : List ℕ) → g.F.ReadMedium.bytes l.fn.self.medium ≡ bytes → l.bounds.len ≡ length bytes
          → cut_end version l.bounds.len (difat_from version bytes (l.bounds.sectors - l._turn) l.link) ≡ cut_end version l.bounds.len (difat_from version bytes l.bounds.sectors first_difat_link);
    }
