use Rattle.std.proofs.Common.{◌∙◌, ap, arith, length, List}
use Rattle.std.proofs.lemmas.List.{length-map}
use Rattle.cfb_codecs.specs.EntryModel.{entry_of}
use Rattle.cfb_format.specs.DirectoryEntry.{Entry}
use Rattle.cfb_format.specs.Siblings.{entry_at}
use Rattle.cfb_tool.proofs.cfb_path_changes.Numbers.{object-within}
use Rattle.cfb_tool.proofs.cuts.extent_at.Goals as goal

pub len_of-len-requires : goal.len_of-len-requires
len_of-len-requires g c =
    object-within c.args.file.now c.entries.result.now c.in_ok-number.number c.entries.ensures.entries c.entries.ensures.in_order c.in_ok-number.ensures.found.object

pub readable_of-requires : goal.readable_of-requires
readable_of-requires g c =
    let l = object-within c.args.file.now c.entries.result.now c.in_ok-number.number c.entries.ensures.entries c.entries.ensures.in_order c.in_ok-number.ensures.found.object in
    let e = ap (length {A = Entry}) c.entries.ensures.entries in
    omega (arith, l, e, length-map c.entries.result.now entry_of)

pub returns : goal.returns
returns g c = record {
  ok = λ told unfailed. record {
    number = c.in_ok-number.number;
    at = c.in_ok-number.ensures.found;
    readable = c.in_ok-readable.ensures.ok told unfailed;
    len = c.len_of-len.ensures ∙ ap (λ (es : List Entry). (entry_at es c.in_ok-number.number).stream_len) c.entries.ensures.entries;
  };
}
