use Rattle.std.proofs.Common.{◌≡◌, take}
use Rattle.std.specs.List.{filter}
use Rattle.cfb_codecs.specs.EntryModel.{entries_of}
use Rattle.cfb_opening.specs.Streams.{is_stream_at}
use Rattle.cfb_opening.proofs.streams.stream_numbers.Given as goal

abbrev pub invariant-loop-number : goal.invariant-loop-number
invariant-loop-number g l = l.streams.items ≡ filter (is_stream_at (entries_of l.entries)) (take l.number-index l.number-items)
