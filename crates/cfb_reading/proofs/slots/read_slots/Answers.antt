use Rattle.std.proofs.Common.{◌≡◌, List, length, ◌∙◌, ap, subst}
use Rattle.std.specs.List.{AllZip}
use Rattle.std.proofs.lemmas.Result.{on_ok_weaker, IfErr-weaker}
use Rattle.cfb_format.specs.Bytes.{is_whole_sector}
use Rattle.cfb_alloc.specs.Alloc.{IsMeasured}
use Rattle.std.specs.Prelude.{IsTrue, true}
use Rattle.cfb_format.specs.DirectoryEntry.{AcceptsEntry, Entry, slots_of_sector}
use Rattle.cfb_codecs.specs.EntryModel.{entries_of}
use Rattle.cfb_reading.specs.ReadDirectory.{AppendsSlots}
use Rattle.cfb_reading.proofs.Refusals.{memory-refused}
use Rattle.cfb_reading.proofs.SlotChunks.{chunk-count, chunks-slots, no-entries}
use Rattle.cfb_reading.proofs.slots.read_slots.Goals as goal

pub returns-clause-appended : goal.returns-clause-appended
returns-clause-appended g c =
    let a = c.args.allocator.now in
    let v = a.tables.version in
    let bytes = c.read_whole.new.into in
    let e = c.in_ok-read_whole.ensures in
    let cut = c.as_chunks.ensures.front in
    on_ok_weaker c.append_entries.result
    (λ appends. (
      c.as_chunks.result.0.now,
      ap length cut ∙ chunk-count v bytes (length bytes) e.len,
      (λ tells. cut ∙ chunks-slots v a.file.bytes c.args.sector bytes (length bytes) e.len (e.ok tells)),
      subst (λ w. AppendsSlots c.args.validation w c.as_chunks.result.0.now (entries_of c.args.entries.now.items) (entries_of c.append_entries.new.entries.items)) c.version-version.ensures appends,
    ))
    c.append_entries.ensures.appended

pub returns-clause-err : goal.returns-clause-err
returns-clause-err g c =
    let a = c.args.allocator.now in
    let v = a.tables.version in
    let bytes = c.read_whole.new.into in
    let e = c.in_ok-read_whole.ensures in
    let w = c.version-version.result in
    let chunks = c.as_chunks.result.0.now in
    let none : ((more : List Entry) → AllZip (AcceptsEntry c.args.validation w) chunks more → ⊥) → IsTrue g.F.ReadMedium.tells → IsMeasured a.file
    → is_whole_sector v a.file.bytes c.args.sector ≡ true → (more : List Entry)
    → AllZip (AcceptsEntry c.args.validation v) (slots_of_sector v a.file.bytes c.args.sector) more → ⊥ =
    λ refuses tells measured whole. no-entries c.args.validation v w a.file.bytes c.args.sector bytes chunks c.version-version.ensures e.len (e.ok tells) c.as_chunks.ensures.front refuses in
    IfErr-weaker c.append_entries.result _ _ (λ error refused. memory-refused _ _ _ _ none error refused) c.append_entries.ensures.err
