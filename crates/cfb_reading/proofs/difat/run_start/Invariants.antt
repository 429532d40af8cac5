use Rattle.std.proofs.Common.{◌≡◌, ◌≤◌, ◌+◌, length, take}
use Rattle.std.specs.Prelude.{◌==◌}
use Rattle.std.specs.List.{suffix_len}
use Rattle.cfb_reading.proofs.difat.run_start.Given as goal

abbrev pub invariant-loop-start : goal.invariant-loop-start
invariant-loop-start l = record {
  within : l.start ≤ length l.words;
  counted : l.start + suffix_len (λ w. w == l.word) l.words ≡ length l.words + suffix_len (λ w. w == l.word) (take l.start l.words);
}

abbrev pub decreases-loop-start : goal.decreases-loop-start
decreases-loop-start l = l.start
