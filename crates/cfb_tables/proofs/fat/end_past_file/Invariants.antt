use Rattle.std.proofs.Common.{◌≡◌, ◌++◌, length, map, take, drop}
use Rattle.cfb_format.specs.Fat.{ended_past_file}
use Rattle.cfb_tables.proofs.fat.end_past_file.Given as goal

abbrev pub invariant-loop-word : goal.invariant-loop-word
invariant-loop-word l = l.fat ≡ map (ended_past_file (length l.initial.fat)) (take l.word-index l.initial.fat) ++ drop l.word-index l.initial.fat
