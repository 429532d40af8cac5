use Rattle.std.proofs.Common.{[], ◌<◌, ◌≤◌, ℕ, List, length, arith, subst}
use Rattle.std.proofs.lemmas.List.{take_all}
use Rattle.cfb_format.specs.DirectoryEntry.{AcceptsEntry, Entry}
use Rattle.cfb_codecs.specs.EntryModel.{entries_of}
use Rattle.cfb_reading.specs.ReadDirectory.{AppendsSlots}
use Rattle.cfb_reading.proofs.SlotChunks.{appends-none, appends-pushed}
use Rattle.cfb_reading.proofs.Zips.{zip-beside}
use Rattle.cfb_codecs.proofs.Refusals.{refusal_follows}
use Rattle.std.proofs.lemmas.Result.{err_from_is_err_and}
use Rattle.std.specs.Prelude.{slice_index_or}
use Rattle.cfb_reading.proofs.slots.append_entries.Goals as goal

pub loop-slot-init : goal.loop-slot-init
loop-slot-init g c = appends-none c.args.validation c.args.version (entries_of c.args.entries.now.items)

pub loop-slot-preserved : goal.loop-slot-preserved
loop-slot-preserved g c =
    appends-pushed c.args.validation c.args.version c.args.slots.now c.loop-slot.slot-index (entries_of c.args.entries.now.items) c.loop-slot.entries.items c.push.new.self.items c.in_ok-entry.entry
    (omega arith) c.in_ok-push.ensures.items c.loop-slot.invariant (record { accepted = c.in_ok-entry.ensures.ok; name = c.in_ok-entry.ensures.short; fits = c.entry_fits.ensures })

pub returns-in_err-entry-clause-err : goal.returns-in_err-entry-clause-err
returns-in_err-entry-clause-err g c =
    let all = c.args.slots.now in
    let i = c.loop-slot.slot-index in
    let inside : i < length all = omega arith in
    let p = err_from_is_err_and c.from_residual-in_err-entry.result c.from_residual-in_err-entry.ensures.1 in
    rw (p.1, p.2) (refusal_follows c.in_err-entry.field-0.0 _ _
    (λ (none : (e : Entry) → AcceptsEntry c.args.validation c.args.version (slice_index_or all i []) e → ⊥) more z.
    let one = zip-beside (AcceptsEntry c.args.validation c.args.version) all more i [] z inside in none one.0 one.1)
    c.in_err-entry.ensures.refused)

pub returns-clause-appended : goal.returns-clause-appended
returns-clause-appended g c =
    let done : length c.args.slots.now ≤ c.loop-slot.slot-index = c.loop-slot-test.false in
    subst (λ (xs : List (List ℕ)). AppendsSlots c.args.validation c.args.version xs (entries_of c.args.entries.now.items) (entries_of c.loop-slot.entries.items))
    (take_all c.loop-slot.slot-index c.args.slots.now done) c.loop-slot.invariant
