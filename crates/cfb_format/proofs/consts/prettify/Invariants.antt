use Rattle.std.proofs.Common.{◌≡◌, take}
use Rattle.std.specs.Prelude.{All, flat_map}
use Rattle.cfb_format.specs.Runs.{run_words, AreLongest, StaysBelowMarks}
use Rattle.cfb_format.proofs.consts.prettify.Given as goal

abbrev pub invariant-loop-word : goal.invariant-loop-word
invariant-loop-word g l = record {
  words : flat_map run_words l.runs.items ≡ take l.word-index l.words;
  longest : AreLongest l.runs.items;
  numbers : All StaysBelowMarks l.runs.items;
}
