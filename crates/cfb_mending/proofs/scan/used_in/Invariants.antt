use Rattle.std.proofs.Common.{◌≡◌, ◌≤◌, ℕ, List}
use Rattle.cfb_format.specs.declared.version.Version.{Version}
use Rattle.cfb_format.specs.Bytes.{sector_start, words_per_sector}
use Rattle.cfb_mending.specs.Missing.{Holds, used_in}
use Rattle.cfb_mending.proofs.scan.used_in.Given as goal

abbrev pub invariant-loop-used : goal.invariant-loop-used
invariant-loop-used l =
    record {
      most : l.used ≤ l.count;
      exact : (version : Version) (bytes : List ℕ) (s : ℕ) → l.count ≤ words_per_sector version → Holds 4 version bytes s l.loaded.bytes l.loaded.len
          → used_in bytes (sector_start version s) l.used ≡ used_in bytes (sector_start version s) l.count;
    }

abbrev pub decreases-loop-used : goal.decreases-loop-used
decreases-loop-used l = l.used
