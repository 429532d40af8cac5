use Rattle.std.proofs.Common.{◌++◌, ◌∷◌, ◌∙◌, [], List, ℕ, chars, encode_utf8_all, refl}
use Rattle.std.proofs.KnownBytes.{Appends-trans}
use Rattle.cfb_codecs.specs.EntryModel.{entry_of}
use Rattle.cfb_listing.specs.Told.{entry_info}
use Rattle.cfb_text.specs.Shown.{shown}
use Rattle.cfb_shown.proofs.Pieces.{ends-as}
use Rattle.cfb_shown.proofs.RowTexts.{fields_with, row_is}
use Rattle.cfb_shown.proofs.rows.write_row.Goals as goal

pub returns : goal.returns
returns g c =
    let path = c.args.path.now in
    let fields : List ℕ = fields_with c.kind_of-kind.result.now c.len_of-len.result c.class_id_of-class_id.result.0 c.args.entry.now.state_bits c.moment_in-created.result.0 c.moment_in-modified.result.0 in
    let told : List ℕ = fields ++ encode_utf8_all (shown (chars path)) in
    ends-as c.write_all.result (g.W.Write.contents c.args.out.now) (g.W.Write.contents c.write_shown.new.out) _ told (10 ∷ []) _
    (Appends-trans (g.W.Write.contents c.args.out.now) (g.W.Write.contents c.write.new.self) (g.W.Write.contents c.write_shown.new.out) fields (encode_utf8_all (shown (chars path)))
    c.in_ok-write.ensures.bytes c.in_ok-write_shown.ensures)
    (row_is [] fields told (told ++ 10 ∷ []) c.kind_of-kind.result.now path c.len_of-len.result c.class_id_of-class_id.result.0 c.args.entry.now.state_bits
    c.moment_in-created.result.0 c.moment_in-modified.result.0 (entry_info (chars path) (entry_of c.args.entry.now)) refl refl refl
    c.kind_of-kind.ensures c.len_of-len.ensures c.class_id_of-class_id.ensures refl c.moment_in-created.ensures c.moment_in-modified.ensures refl)
    c.write_all.ensures.bytes
