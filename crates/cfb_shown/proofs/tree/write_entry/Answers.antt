use Rattle.std.proofs.Common.{encode_utf8_all, refl}
use Rattle.cfb_codecs.specs.EntryModel.{entry_of}
use Rattle.cfb_text.specs.Shown.{shown}
use Rattle.cfb_shown.specs.Trees.{behind_name, own_name}
use Rattle.cfb_shown.proofs.Pieces.{ends-as}
use Rattle.cfb_shown.proofs.tree.write_entry.Goals as goal

pub returns : goal.returns
returns g c =
    let e = entry_of c.args.entry.now in
    ends-as c.write_end.result (g.W.Write.contents c.args.out.now) (g.W.Write.contents c.write_name.new.out) _ (encode_utf8_all (shown (own_name e.obj_type e.name))) (behind_name e.obj_type e.stream_len) _
    c.in_ok-write_name.ensures refl c.write_end.ensures
