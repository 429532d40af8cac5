use Rattle.std.proofs.Common.{◌≡◌, ◌+◌, ◌*◌, ◌++◌, take, drop}
use Rattle.cfb_format.specs.Bytes.{word_bytes}
use Rattle.cfb_format.proofs.bytes.put_words.Given as goal

abbrev pub invariant-loop-word : goal.invariant-loop-word
invariant-loop-word l = record {
  end : l.end ≡ l.at + 4 * l.word-index;
  before : take l.end l.into ≡ take l.at l.fn.into ++ word_bytes (take l.word-index l.words);
  after : drop l.end l.into ≡ drop l.end l.fn.into;
}
