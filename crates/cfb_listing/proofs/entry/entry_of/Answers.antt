use Rattle.std.proofs.Common.{◌≡◌, take, drop, length, sym, ap, ◌∙◌}
use Rattle.std.specs.Prelude.{chars, string_bytes}
use Rattle.std.proofs.lemmas.Str.{IsCharBoundary-at_seam}
use Rattle.std.proofs.Math.Seq.{take-append_seam, drop-append_seam}
use Rattle.cfb_format.specs.DirectoryEntry.{Entry, unallocated_entry}
use Rattle.std.proofs.lemmas.List.{get_or-map}
use Rattle.cfb_codecs.specs.EntryModel.{entry_of}
use Rattle.cfb_listing.specs.Told.{entry_info}
use Rattle.cfb_listing.proofs.entry.entry_of.Goals as goal

pub invariant_of-result : goal.invariant_of-result
invariant_of-result g c = rw c.as_str-path_len.ensures.value (IsCharBoundary-at_seam (string_bytes c.push_str.new.self) (string_bytes c.args.path) c.name_of.result.now c.in_ok-push_str.ensures.bytes c.name_of.utf8)

pub returns-clause-ok : goal.returns-clause-ok
returns-clause-ok g c =
    let at : length c.as_str-path_len.result.now ≡ length (string_bytes c.args.path) = ap (λ xs. length xs) c.as_str-path_len.ensures.value in
    let front : take (length c.as_str-path_len.result.now) (string_bytes c.push_str.new.self) ≡ string_bytes c.args.path = rw (at, c.in_ok-push_str.ensures.bytes) (take-append_seam (string_bytes c.args.path) c.name_of.result.now) in
    let back : drop (length c.as_str-path_len.result.now) (string_bytes c.push_str.new.self) ≡ c.name_of.result.now = rw (at, c.in_ok-push_str.ensures.bytes) (drop-append_seam (string_bytes c.args.path) c.name_of.result.now) in
    rw (front, back, c.name_of.ensures, c.len_of.ensures, c.clsid_of.ensures, c.moment_of.ensures, c.moment_of-2.ensures) (ap (λ (e : Entry). entry_info (chars (string_bytes c.args.path)) e) (sym (get_or-map entry_of c.args.entries.now c.args.number c.index-entries-number.result unallocated_entry c.requires ∙ ap entry_of (sym c.index-entries-number.is))))
