use Rattle.std.proofs.Common.{◌++◌, ◌∷◌, [], List, ℕ, chars, codes, decimal, encode_utf8_all}
use Rattle.std.proofs.KnownBytes.{Appends-trans}
use Rattle.cfb_codecs.specs.EntryModel.{entry_of}
use Rattle.cfb_listing.specs.Told.{entry_info}
use Rattle.cfb_text.specs.Shown.{shown}
use Rattle.cfb_shown.proofs.LineTexts.{shown-is}
use Rattle.cfb_shown.proofs.Pieces.{ends-as}
use Rattle.cfb_shown.proofs.lines.write_shown_line.Goals as goal

pub returns : goal.returns
returns g c =
    let path = c.args.path.now in
    let first : List ℕ = c.kind_of-kind.result.now ++ (codes " " ++ (decimal c.len_of-len.result ++ codes " ")) in
    let seen : List ℕ = encode_utf8_all (shown (chars path)) in
    ends-as c.write_all.result (g.W.Write.contents c.args.out.now) (g.W.Write.contents c.write_shown.new.out) _ (first ++ seen) (10 ∷ []) _
    (Appends-trans (g.W.Write.contents c.args.out.now) (g.W.Write.contents c.write.new.self) (g.W.Write.contents c.write_shown.new.out) first seen c.in_ok-write.ensures.bytes c.in_ok-write_shown.ensures)
    (shown-is c.kind_of-kind.result.now (chars path) c.len_of-len.result (entry_info (chars path) (entry_of c.args.entry.now)) c.kind_of-kind.ensures c.len_of-len.ensures)
    c.write_all.ensures.bytes
