use Rattle.std.proofs.Common.{chars}
use Rattle.cfb_codecs.specs.EntryModel.{entry_of}
use Rattle.cfb_listing.specs.Told.{entry_info}
use Rattle.cfb_shown.proofs.LineTexts.{line-is}
use Rattle.cfb_shown.proofs.Pieces.{is-as}
use Rattle.cfb_shown.proofs.lines.write_plain_line.Goals as goal

pub returns : goal.returns
returns g c =
    is-as c.writeln.result _ _ _ _
    (line-is c.kind_of-kind.result.now c.args.path.now c.len_of-len.result (entry_info (chars c.args.path.now) (entry_of c.args.entry.now)) c.kind_of-kind.ensures c.len_of-len.ensures c.utf8.path)
    c.writeln.ensures.bytes
