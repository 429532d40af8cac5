use Rattle.std.proofs.Common.{ap, arith, length}
use Rattle.std.proofs.lemmas.List.{length-map}
use Rattle.cfb_codecs.specs.EntryModel.{entry_of}
use Rattle.cfb_format.specs.DirectoryEntry.{Entry}
use Rattle.cfb_extract.proofs.extracting.CompoundFileSource.name.Goals as goal

pub name_of-requires : goal.name_of-requires
name_of-requires g c = let e = ap (length {A = Entry}) c.entries.ensures.entries in omega (arith, c.requires, e, length-map c.entries.result.now entry_of)
