use Rattle.std.proofs.Common.{◌≡◌, inl, inr, length, arith, refl, sym, ◌∙◌, ap}
use Rattle.std.specs.Prelude.{List, Bool, false, true, not}
use Rattle.std.proofs.lemmas.List.{length-map}
use Rattle.cfb_codecs.specs.EntryModel.{entry_of}
use Rattle.cfb_format.specs.Bytes.{entries_per_sector}
use Rattle.cfb_format.specs.DirectoryEntry.{Entry}
use Rattle.cfb_entries.specs.EntryList.{has_free}
use Rattle.cfb_directory.proofs.cfb_tables.RoomLemmas.{nothing-given-back}
use Rattle.cfb_directory.proofs.inserting.check_room.Goals as goal

not-true : (b : Bool) → not b ≡ true → b ≡ false
not-true true e = sym e
not-true false e = refl

pub returns-then-count-per-gt-MAX_ENTRIES-clause-err : goal.returns-then-count-per-gt-MAX_ENTRIES-clause-err
returns-then-count-per-gt-MAX_ENTRIES-clause-err g c =
    let per : c.dir_entries_per_sector-per.result ≡ entries_per_sector c.args.allocator.now.tables.version = cc in
    let len : length c.args.entries.now.entries ≡ length c.list-count.result.now = sym (ap (λ (l : List Entry). length l) c.list-count.ensures.list) ∙ length-map c.list-count.result.now entry_of in
    let many = c.if-count-per-gt-MAX_ENTRIES.true in
    (not-true (has_free c.args.entries.now.entries) (sym c.is_full.ensures ∙ c.if-not-is_full.false), inl (omega (arith, per, len, many)))

pub returns-clause-enough : goal.returns-clause-enough
returns-clause-enough g c (free, inl many) =
    let per : c.dir_entries_per_sector-per.result ≡ entries_per_sector c.args.allocator.now.tables.version = cc in
    let len : length c.args.entries.now.entries ≡ length c.list-count.result.now = sym (ap (λ (l : List Entry). length l) c.list-count.ensures.list) ∙ length-map c.list-count.result.now entry_of in
    let few = c.if-count-per-gt-MAX_ENTRIES.false in
    omega (arith, per, len, few, many)
returns-clause-enough g c (free, inr few) = c.can_take.ensures.0 c.if-not-can_take.false ((nothing-given-back c.args.allocator.now.tables 1).1 few)
