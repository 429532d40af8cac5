use Rattle.std.proofs.Common.{ap, arith, length}
use Rattle.std.proofs.lemmas.List.{length-map}
use Rattle.cfb_codecs.specs.EntryModel.{entry_of}
use Rattle.cfb_format.specs.DirectoryEntry.{Entry}
use Rattle.cfb_extract.proofs.extracting.CompoundFileSource.is_stream.Goals as goal

pub is_stream-requires : goal.is_stream-requires
is_stream-requires g c = let e = ap (length {A = Entry}) c.entries.ensures.entries in omega (arith, c.requires, e, length-map c.entries.result.now entry_of)
